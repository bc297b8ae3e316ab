-- Blocks of one kind.
use Rattle.std.proofs.Common.{◌≡◌, true, false, length, refl}
use Rattle.dc_node.specs.{Block.{rows_in, entries_in, is_leaf, size}, declared.block.Body.Body, declared.block.Body.TheVariants.{Rows, Entries}}
use Rattle.core_image.specs.tree_shape.specs.Trees.{limit}

pub leaf-size : (body : Body) → is_leaf body ≡ true → size body ≡ length (rows_in body)
leaf-size (Rows rows) h = refl
leaf-size (Entries entries) h = cc

pub leaf-limit : (body : Body) → is_leaf body ≡ true → limit body ≡ 32
leaf-limit (Rows rows) h = refl
leaf-limit (Entries entries) h = cc

pub directory-size : (body : Body) → is_leaf body ≡ false → size body ≡ length (entries_in body)
directory-size (Rows rows) h = cc
directory-size (Entries entries) h = refl

pub directory-limit : (body : Body) → is_leaf body ≡ false → limit body ≡ 16
directory-limit (Rows rows) h = cc
directory-limit (Entries entries) h = refl
