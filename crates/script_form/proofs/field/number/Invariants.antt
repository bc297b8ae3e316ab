use Rattle.std.proofs.Common.{◌≡◌, ◌<◌, ◌^◌, ◌+◌, ◌*◌, ◌-◌, fold, drop}
use Rattle.std.specs.List.{list_all}
use Rattle.script_form.specs.Fields.{digits_value, is_digit}
use Rattle.script_form.proofs.field.number.Given as goal

abbrev pub invariant-loop-digit : goal.invariant-loop-digit
invariant-loop-digit l = record {
  value_is : fold (λ value b. 10 * value + (b - 48)) l.value (drop l.digit-index l.text) ≡ digits_value l.text;
  digits : list_all is_digit (drop l.digit-index l.text) ≡ list_all is_digit l.text;
  small : l.value < 10 ^ l.digit-index;
}
