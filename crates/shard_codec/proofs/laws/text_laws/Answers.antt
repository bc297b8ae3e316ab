use Rattle.shard_codec.proofs.{Again.decoded-again, Apart.{distinct, no_prefix, of-format}, Found.{decoded-found, each-byte}}
use Rattle.shard_codec.proofs.laws.text_laws.Goals as goal

pub returns-clause-again : goal.returns-clause-again
returns-clause-again c = decoded-again

pub returns-clause-text : goal.returns-clause-text
returns-clause-text c = λ h bytes rows w small read. (decoded-found h bytes rows w (each-byte bytes small) read).text

pub returns-clause-spelled : goal.returns-clause-spelled
returns-clause-spelled c = λ h bytes rows w small read. (decoded-found h bytes rows w (each-byte bytes small) read).spelled

pub returns-clause-format : goal.returns-clause-format
returns-clause-format c = of-format

pub returns-clause-distinct : goal.returns-clause-distinct
returns-clause-distinct c = distinct

pub returns-clause-no_prefix : goal.returns-clause-no_prefix
returns-clause-no_prefix c = no_prefix
