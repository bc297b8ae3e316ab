-- A part of one desk gives way to others: what all desks keep, and what the parts of the invariant keep that read desks and no actor's part.
use Rattle.std.proofs.{Common.{◌≡◌, ◌≢◌, ℕ, ◌<◌, List, ◌∷◌, ◌++◌, Bool, true, eqb, refl, sym, ap, subst, ◌∙◌, Option, All, Contains}, lemmas.Bool.{eqb-true, eqb-false}}
use Rattle.std.specs.Prelude.{IsSome}
use Rattle.mapping_table.specs.declared.place.Where.{Where}
use Rattle.query_router.specs.{Desk.{DeskValue, is_open}, declared.part.Part.Part}
use Rattle.row_ledger.specs.declared.event.Event.{Event}
use Rattle.server_image.specs.Image.{ImageValue}
use Rattle.list_words.proofs.Truth.{on_bool}
use Rattle.volap_cell.specs.{Lineage.Leading, Owing.Owing, Setting.Setting, declared.command.Command.Command, declared.role.Role.Role}
use Rattle.volap_cell.proofs.{Desks.Lists.all-exchanged, Views.Fields.IsNewAt}

-- On the desk of a server others stand in the place of one part, between the same ones.
pub record TurnsParts (desks desks_now : ℕ → DeskValue) (server : ℕ) (before : List Part) (old : Part) (new behind : List Part) : Type 0 where
  pub was : (desks server).parts ≡ before ++ old ∷ behind
  pub is : desks_now server ≡ record (desks server) { parts = before ++ (new ++ behind) }
  pub elsewhere : (x : ℕ) → x ≢ server → desks_now x ≡ desks x

-- a desk that becomes another one, with its parts
pub turned-parts : (desks desks_now : ℕ → DeskValue) (server : ℕ) (desk : DeskValue) (parts before : List Part) (old : Part) (new behind : List Part) → IsNewAt desks_now desks server desk (record desk { parts = parts })
    → desk.parts ≡ before ++ old ∷ behind → parts ≡ before ++ (new ++ behind) → TurnsParts desks desks_now server before old new behind
turned-parts desks desks_now server desk parts before old new behind at was is = record {
  was = ap (λ (d : DeskValue). d.parts) at.was_there ∙ was;
  is = at.is_there ∙ (λ k. record (sym at.was_there k) { parts = is k });
  elsewhere = at.elsewhere;
}

module _ (desks desks_now : ℕ → DeskValue) (server : ℕ) (before : List Part) (old : Part) (new behind : List Part) (turn : TurnsParts desks desks_now server before old new behind) where
  -- what holds of the desk, and of each other one
  pub by-desk : (Q : ℕ → DeskValue → Type 0) (x : ℕ) → (x ≢ server → Q x (desks x)) → Q server (record (desks server) { parts = before ++ (new ++ behind) }) → Q x (desks_now x)
  by-desk Q x off here = on_bool (eqb x server)
      (λ q. subst (λ (y : ℕ). Q y (desks_now y)) (sym (eqb-true x server q)) (subst (Q server) (sym turn.is) here))
      (λ q. subst (Q x) (sym (turn.elsewhere x (eqb-false x server q))) (off (eqb-false x server q)))

  pub op-same : (x : ℕ) → (desks_now x).op ≡ (desks x).op
  op-same x = by-desk (λ y d. d.op ≡ (desks y).op) x (λ ne. refl) refl

  pub sessions-same : (x : ℕ) → (desks_now x).sessions ≡ (desks x).sessions
  sessions-same x = by-desk (λ y d. d.sessions ≡ (desks y).sessions) x (λ ne. refl) refl

  -- what holds of all parts of the desk
  pub parts-turned : (P Q : Part → Type 0) → All P (desks server).parts → ((p : Part) → Contains (before ++ behind) p → P p → Q p) → All Q new → All Q (before ++ (new ++ behind))
  parts-turned P Q all others news = all-exchanged P Q before new behind old (subst (All P) turn.was all) others news

  pub owing-turned : (s : Setting) (h : List Event) (promised : ℕ) (images : ℕ → ImageValue) (roles : ℕ → Role) (commands : ℕ → Option Command) (counted_in : ℕ → Bool)
      → Owing s h promised images desks roles commands counted_in → Owing s h promised images desks_now roles commands counted_in
  owing-turned s h promised images roles commands counted_in i = record { promises = i.promises; few = i.few; image = i.image; sessions = λ x within. sessions-same x ∙ i.sessions x within }

  pub leading-turned : (s : Setting) (maps : ℕ → ℕ → Option Where) (images : ℕ → ImageValue) → server < s.servers
      → All (λ (p : Part). is_open p ≡ true → (p.worker < s.workers) × IsSome (maps p.worker p.shard)) new → Leading s maps images desks → Leading s maps images desks_now
  leading-turned s maps images within news i =
      let P : Part → Type 0 = λ p. is_open p ≡ true → (p.worker < s.workers) × IsSome (maps p.worker p.shard) in
      record { spots = i.spots; parts = λ x lt. by-desk (λ y d. All P d.parts) x (λ ne. i.parts x lt) (parts-turned P P (i.parts server within) (λ p has held. held) news) }
