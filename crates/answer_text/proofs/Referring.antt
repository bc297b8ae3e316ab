-- In a right history each event that belongs to a command stands behind its beginning.
use Rattle.std.proofs.{Common.{◌<◌, ℕ, Bool, List, [], ◌∷◌, length}, lemmas.Bool.{false≢true}}
use Rattle.std.specs.Prelude.{IfSome}
use Rattle.row_ledger.specs.{Belonging.number_in, Past.{call_in, insert_in, query_in}, Right.{EachEvent, Stands, StandsRight}, Site.Site, declared.event.Event.Event}
use Rattle.row_ledger.specs.declared.event.Event.TheVariants as event
use Rattle.row_ledger.proofs.Fresh.{event_at-within, kind-within}
use Rattle.answer_text.specs.Marks.{RefersBack}

refers : (site : Site) (usable : ℕ → Bool) (past : List Event) (e : Event) → Stands site usable past e → IfSome (number_in e) (λ of. of < length past)
refers site usable past (event.Acked of path) right = kind-within insert_in past of right.insert right.begun
refers site usable past (event.Answered of answer) right = kind-within query_in past of right.query right.asked
refers site usable past (event.Failed of) right = event_at-within past of (λ none. false≢true (rw none at right.begun))
refers site usable past (event.Split of shard left half) right = kind-within call_in past of right.done.call right.done.called
refers site usable past (event.Moved of shard worker) right = kind-within call_in past of right.call right.called
refers site usable past (event.Left of shard how) right = kind-within call_in past of right.call right.called
refers site usable past (event.Shown of page) right = kind-within call_in past of right.call right.called
refers site usable past (event.Ended of how) right = kind-within call_in past of right.call right.called
refers site usable past e right = tt

refers-all : (site : Site) (usable : ℕ → Bool) (h : List Event) → EachEvent (Stands site usable) h → RefersBack h
refers-all site usable [] each = tt
refers-all site usable (e ∷ past) each = (refers site usable past e each.0, refers-all site usable past each.1)

pub refers-back : (site : Site) (usable : ℕ → Bool) (h : List Event) → StandsRight site usable h → RefersBack h
refers-back site usable h right = refers-all site usable h right.each
