-- A session does commands in turn: more of them behind, or nothing in front.
use Rattle.std.proofs.{Common.{◌≡◌, ◌∙◌, ℕ, ◌+◌, ◌<◌, Bool, cond, List, [], ◌∷◌, ◌++◌, length, get_or, take, drop, refl, sym, ap, subst, append-nil, eq-eqb}, lemmas.List.{take-append-drop, Elements.{filter-append, filter_more}}}
use Rattle.std.specs.Prelude.{◌==◌}
use Rattle.dim_hierarchy.specs.Dimension.{Dimension}
use Rattle.row_ledger.specs.{declared.event.Event.Event, declared.settings.Use.Use}
use Rattle.script_form.specs.declared.script.Command.{Command}
use Rattle.session_runs.proofs.Later.{later-then}
use Rattle.script_run.specs.Places.{session_of}
use Rattle.session_runs.specs.Sessions.{BeginsNothing, DoesCommand, DoesFirst, DoesInTurn, stream_of}

pub nothing-then : (s : ℕ) (a b c : List Event) → BeginsNothing s a b → BeginsNothing s b c → BeginsNothing s a c
nothing-then s a b c first second = record { later = later-then a b c first.later second.later; none = second.none ∙ first.none }

module _ (with : Use) (h : List Dimension) (s : ℕ) where
  pub does-behind : (cs : List Command) (a b c : List Event) → BeginsNothing s a b → DoesInTurn with h s cs b c → DoesInTurn with h s cs a c
  does-behind [] a b c nothing does = nothing-then s a b c nothing does
  does-behind (x ∷ cs) a b c nothing (seen, next, none, one, rest) = (seen, next, nothing-then s a b seen nothing none, one, rest)

  pub does-on : (cs ds : List Command) (a b c : List Event) → DoesInTurn with h s cs a b → DoesInTurn with h s ds b c → DoesInTurn with h s (cs ++ ds) a c
  does-on [] ds a b c nothing does = does-behind ds a b c nothing does
  does-on (x ∷ cs) ds a b c (seen, next, none, one, rest) does = (seen, next, none, one, does-on cs ds next b c rest does)

  -- one alone
  pub does-one : (x : Command) (a b : List Event) → DoesCommand with h s x a b → DoesInTurn with h s (x ∷ []) a b
  does-one x a b one = (a, b, record { later = ([], refl); none = refl }, one, record { later = ([], refl); none = refl })

  own-stream : (x : Command) → session_of with x ≡ s → stream_of with (x ∷ []) s ≡ x ∷ []
  own-stream x own = ap (λ (b : Bool). cond b (x ∷ []) []) (eq-eqb (session_of with x) s own)

  -- one alone, which is its own
  pub does-own : (x : Command) (a b : List Event) → session_of with x ≡ s → DoesCommand with h s x a b → DoesInTurn with h s (stream_of with (x ∷ []) s) a b
  does-own x a b own one = subst (λ (l : List Command). DoesInTurn with h s l a b) (sym (own-stream x own)) (does-one x a b one)

  -- The first commands of a list, and the next one: it does its own of these.
  module _ (cs : List Command) (k : ℕ) (x : Command) (low : k < length cs) (at : x ≡ get_or cs k x) where
    next-stream : stream_of with (take (k + 1) cs) s ≡ stream_of with (take k cs) s ++ stream_of with (x ∷ []) s
    next-stream =
        filter_more (λ (c : Command). session_of with c == s) cs k x low
        ∙ ap (λ (c : Command). stream_of with (take k cs) s ++ stream_of with (c ∷ []) s) (sym at)

    pub does-next : (a b c : List Event) → DoesInTurn with h s (stream_of with (take k cs) s) a b → DoesInTurn with h s (stream_of with (x ∷ []) s) b c → DoesInTurn with h s (stream_of with (take (k + 1) cs) s) a c
    does-next a b c first next = subst (λ (l : List Command). DoesInTurn with h s l a c) (sym next-stream) (does-on (stream_of with (take k cs) s) (stream_of with (x ∷ []) s) a b c first next)

  -- it did the first ones, and begins no other
  pub does-first : (cs : List Command) (k : ℕ) (a b c : List Event) → DoesInTurn with h s (stream_of with (take k cs) s) a b → BeginsNothing s b c → DoesFirst with h s (stream_of with cs s) a c
  does-first cs k a b c does nothing = record {
    first = stream_of with (take k cs) s;
    others = stream_of with (drop k cs) s;
    split = ap (λ (l : List Command). stream_of with l s) (sym (take-append-drop k cs)) ∙ filter-append (λ (c : Command). session_of with c == s) (take k cs) (drop k cs);
    does = subst (λ (l : List Command). DoesInTurn with h s l a c) (append-nil (stream_of with (take k cs) s)) (does-on (stream_of with (take k cs) s) [] a b c does nothing);
  }
