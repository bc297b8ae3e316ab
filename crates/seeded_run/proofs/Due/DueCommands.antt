-- A session at whose server's desk no command stands.
use Rattle.std.proofs.Common.{ℕ, ◌≡◌, Bool, true, false, Option, Some, None, refl}
use Rattle.std.specs.Prelude.{if◌then◌else◌, is_none}
use Rattle.core_pages.specs.volap_cell.specs.{Cells.desk_in, Setting.{Setting, desk_cell}, World.World, declared.kind.Kind.Kind, declared.role.Role.Role, declared.role.Role.TheVariants.{Admin, Hand, Puller, Session}}
use Rattle.core_due.specs.Due.{desk_of, kind_at_empty}

-- a session whose server's desk is empty
pub record IsAtEmpty (s : Setting) (w : World) (r : Role) : Type 0 where
  pub server : ℕ
  pub role : r ≡ Session server
  pub empty : (desk_in (w.cells (desk_cell s server))).op ≡ None

none-is : (o : Option ℕ) → is_none o ≡ true → o ≡ None
none-is None e = refl
none-is (Some x) e = cc

pub at-empty : (s : Setting) (w : World) (r : Role) (k j : Kind) → kind_at_empty (desk_of s w r) j ≡ Some k → IsAtEmpty s w r × (j ≡ k)
at-empty s w r k j e = by r refl e
  where
    here : (server : ℕ) → r ≡ Session server → (b : Bool) → is_none (desk_in (w.cells (desk_cell s server))).op ≡ b → (if b then Some j else None) ≡ Some k → IsAtEmpty s w r × (j ≡ k)
    here server is true empty e = (record { server = server; role = is; empty = none-is (desk_in (w.cells (desk_cell s server))).op empty }, (let same : j ≡ k = cc in same))
    here server is false empty e = (let none : None ≡ Some k = e in absurd (cc))

    by : (q : Role) → r ≡ q → kind_at_empty (desk_of s w q) j ≡ Some k → IsAtEmpty s w r × (j ≡ k)
    by (Session server) is e = here server is (is_none (desk_in (w.cells (desk_cell s server))).op) refl e
    by (Hand worker) is e = (let none : None ≡ Some k = e in absurd (cc))
    by Puller is e = (let none : None ≡ Some k = e in absurd (cc))
    by Admin is e = (let none : None ≡ Some k = e in absurd (cc))
