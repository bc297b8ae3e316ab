-- That the generated text is a script.
use Rattle.std.specs.Prelude.{ℕ, ◌≡◌, Ok}
use Rattle.script_form.specs.Scripts.{records_of, script, script_of}
use Rattle.volap_gen.specs.Generated.{generated, text_of}

-- its records are those that it was made of, and they are a script
abbrev pub GoodScriptLaw : Type 0
GoodScriptLaw = (rows seed : ℕ) → (records_of (text_of (generated rows seed)) ≡ generated rows seed)
    × (script (records_of (text_of (generated rows seed))) ≡ Ok (script_of (generated rows seed)))
