-- Kinds that are made in place of others.
use Rattle.std.proofs.Common.{◌≡◌, ◌∙◌, inl, inr, Option, Some, None, refl, sym, ap, Bool, true, false}
use Rattle.script_form.specs.declared.script.Command.{Command}
use Rattle.script_form.specs.declared.script.Command.TheVariants as script
use Rattle.core_pages.specs.volap_cell.specs.declared.kind.Kind.{Kind}
use Rattle.core_pages.specs.volap_cell.specs.declared.kind.Kind.TheVariants as kind
use Rattle.seeded_run.specs.{Commands.beginning_if, Instead.{StandsFor, in_place_of}}

-- of a kind that takes no memory none other is made
pub made-as-due : (due made : Kind) → in_place_of due ≡ None → StandsFor due made → made ≡ due
made-as-due due made none (inl same) = same
made-as-due due made none (inr other) = (let never : ◌≡◌ {A = Option Kind} (Some made) None = sym other ∙ none in absurd (cc))

-- what stands for a kind that takes no memory stands for the one in whose place that is made
pub falls-to : (due instead made : Kind) → in_place_of due ≡ Some instead → in_place_of instead ≡ None → StandsFor instead made → StandsFor due made
falls-to due instead made other none stands = inr (other ∙ ap Some (sym (made-as-due instead made none stands)))

-- a command that is refused ends with a note, whatever it would have begun by
pub note-stands : (c : Command) (known : Bool) → StandsFor (beginning_if c known) kind.Note
note-stands (script.Insert new) true = inr refl
note-stands (script.Insert new) false = inl refl
note-stands (script.Query question) true = inr refl
note-stands (script.Query question) false = inl refl
note-stands (script.Control called) known = inl refl
note-stands (script.Group dim level filter) known = inl refl
