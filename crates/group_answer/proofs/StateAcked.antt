-- Where nobody has anything to do, the rows of the shards that stand are the acknowledged ones.
use Rattle.std.proofs.Common.{ℕ, ◌≡◌, true, Contains, inl, inr, sym, ◌∙◌}
use Rattle.row_ledger.specs.{Past.{Ack, acked}, declared.page.GroupPage.GroupPage}
use Rattle.core_pages.specs.Looks.{StateValue}
use Rattle.core_pages.specs.volap_cell.specs.{Ghost.Ghost, Invariant.InvWith, Setting.Setting, Sights.IsIdle, View.view, World.World}
use Rattle.core_pages.specs.core_image.proofs.Pages.PagesShown.{groups-shown}
use Rattle.group_answer.specs.{Groups.Question, Seen.{AreAckedIn, AreGroupsIn}}

-- a row that has passed a gate is acknowledged
settled : (s : Setting) (w : World) (g : Ghost) → InvWith s (view s w) g → ((a : ℕ) → IsIdle (w.actors a)) → (r : ℕ) → g.placed r ≡ true → (k : Ack) × Contains (acked (view s w).history) k × (k.row.no ≡ r)
settled s w g i idle r p = elim (i.placing.others r p) [
  | inl acked_one ↦ acked_one
  | inr routed ↦ (let (a, row, is) = routed in
      let none = (idle a).command in
      let never = sym none ∙ is in absurd (cc))
]

pub acked-in : (q : Question) (state : StateValue) (page : GroupPage) → AreGroupsIn q state page → AreAckedIn q state page
acked-in q state page are s w same is inv idle = groups-shown s w inv.ghost_of inv.holds (settled s w inv.ghost_of inv.holds idle) q page (are s w same is inv)
