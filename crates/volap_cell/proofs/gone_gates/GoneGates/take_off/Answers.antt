use Rattle.std.proofs.Common.{ℕ, ap, rules, ◌∙◌}
use Rattle.std.proofs.lemmas.Fn.{filter_same}
use Rattle.std.specs.Prelude.{not, ◌==◌}
use Rattle.volap_cell.specs.Reusing.{GoneGatesValue, without_gate}
use Rattle.volap_cell.proofs.gone_gates.GoneGates.take_off.Goals as goal

pub returns : goal.returns
returns c =
    filter_same _ (λ (z : ℕ). not (z == c.args.gate)) _ (λ x b f' k. search rules) _ _ c.retain.ensures.filtered
    ∙ ap (λ (v : GoneGatesValue). without_gate c.args.gate v.cells) c.self.view_is
