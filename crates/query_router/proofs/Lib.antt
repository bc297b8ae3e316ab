mod OpenParts
