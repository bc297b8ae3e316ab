use Rattle.std.proofs.Common.{◌≡◌, ◌∙◌, ◌⊎◌, ◌++◌, List, Some, None, inl, inr, ap, refl}
use Rattle.std.specs.{Option.option_to_list, Prelude.option_map}
use Rattle.script_form.specs.{Causes.hierarchy_cause, Fields.{Record, field}, Scripts.{after, call_by}, Table.kind_of, declared.script.Command.Command, declared.script.Script.Script, declared.table.Kind.Kind}
use Rattle.script_form.specs.declared.script.Command.TheVariants as command
use Rattle.script_form.specs.declared.table.Kind.TheVariants as kind
use Rattle.csv.specs.Records.{fields_of}
use Rattle.script_form.proofs.record.add_record.Goals as goal

-- a kind of called commands without names
abbrev IsCalled : Kind → Type 0
IsCalled k =
    (k ≡ kind.Sync) ⊎ (k ≡ kind.Split) ⊎ (k ≡ kind.Move) ⊎ (k ≡ kind.Balance) ⊎ (k ≡ kind.Barrier) ⊎ (k ≡ kind.Settle) ⊎ (k ≡ kind.Shards) ⊎ (k ≡ kind.Tree) ⊎ (k ≡ kind.Audit)

-- what such a record adds to the script of those before it
abbrev with_call : Script → Kind → Record → Script
with_call s k r = record s { commands = s.commands ++ option_to_list (option_map command.Control (call_by k r)) }

-- the hierarchy says nothing against it, and it adds its call alone
adds_call : (s : Script) (k : Kind) (r : Record) → kind_of (field r 0) ≡ Some k → IsCalled k → (hierarchy_cause s.hierarchy k r ≡ None) × (with_call s k r ≡ after s r)
adds_call s k r is (inl one) = rw (is, one) (refl, refl)
adds_call s k r is (inr (inl one)) = rw (is, one) (refl, refl)
adds_call s k r is (inr (inr (inl one))) = rw (is, one) (refl, refl)
adds_call s k r is (inr (inr (inr (inl one)))) = rw (is, one) (refl, refl)
adds_call s k r is (inr (inr (inr (inr (inl one))))) = rw (is, one) (refl, refl)
adds_call s k r is (inr (inr (inr (inr (inr (inl one)))))) = rw (is, one) (refl, refl)
adds_call s k r is (inr (inr (inr (inr (inr (inr (inl one))))))) = rw (is, one) (refl, refl)
adds_call s k r is (inr (inr (inr (inr (inr (inr (inr (inl one)))))))) = rw (is, one) (refl, refl)
adds_call s k r is (inr (inr (inr (inr (inr (inr (inr (inr one)))))))) = rw (is, one) (refl, refl)

pub returns-in_ok-add_call-in-Sync-clause-no_cause : goal.returns-in_ok-add_call-in-Sync-clause-no_cause
returns-in_ok-add_call-in-Sync-clause-no_cause c = (adds_call c.args.script.now c.args.kind.now (fields_of c.args.row.now) c.requires.kind c.in-Sync.is).0

pub returns-in_ok-add_call-in-Sync-clause-ok : goal.returns-in_ok-add_call-in-Sync-clause-ok
returns-in_ok-add_call-in-Sync-clause-ok c =
    let s = c.args.script.now in
    ap (λ (all : List Command). record s { commands = all }) c.in_ok-add_call-in-Sync.ensures.ok ∙ (adds_call s c.args.kind.now (fields_of c.args.row.now) c.requires.kind c.in-Sync.is).1
