-- Who the actors of a script's run are, how many, and that a core can open with them.
use Rattle.std.proofs.{Common.{◌≡◌, ◌∙◌, ◌⊎◌, inl, inr, ℕ, zero, suc, ◌+◌, ◌-◌, ◌*◌, ◌^◌, ◌<◌, ◌≤◌, List, [], ◌∷◌, ◌++◌, length, Option, Some, None, get_or, slice_get, refl, sym, ap, subst, arith}, lemmas.Bool.cases_lt, lemmas.List.{append_assoc, append-nil, length-append}, lemmas.Option.slice_get-get_or}
use Rattle.dim_hierarchy.specs.Dimension.{Dimension, IsHierarchy}
use Rattle.row_ledger.specs.declared.settings.Use.{Use}
use Rattle.script_form.specs.Fits.{AreSettings}
use Rattle.script_roles.specs.Roles.{AreScriptRoles, CanOpen, IsNumbered, hands_at, hands_of, roles_of, sessions_of}
use Rattle.volap_cell.specs.{Filling.setting_for, Numbering.{IsRoleOf, IsSetting}, Setting.Setting, declared.role.Role.Role, declared.role.Role.TheVariants.{Admin, Hand, Puller, Session}}

-- Lists of roles.

-- what stands in two lists behind one another stands in one of them
in-either : {A : Type 0} (xs ys : List A) (k : ℕ) (x : A) → slice_get (xs ++ ys) k ≡ Some x → (slice_get xs k ≡ Some x) ⊎ ((j : ℕ) × (slice_get ys j ≡ Some x))
in-either [] ys k x is = inr (k, is)
in-either (z ∷ xs) ys zero x is = inl is
in-either (z ∷ xs) ys (suc k) x is = in-either xs ys k x is

-- behind the sessions stand the others
behind-sessions : (n k : ℕ) (more : List Role) → slice_get (sessions_of n ++ more) (n + k) ≡ slice_get more k
behind-sessions zero k more = (let at : 0 + k ≡ k = omega arith in ap (slice_get more) at)
behind-sessions (suc n) k more =
    let at : suc n + k ≡ n + suc k = omega arith in
    ap (λ (roles : List Role). slice_get roles (suc n + k)) (append_assoc (sessions_of n) (Session n ∷ []) more)
    ∙ ap (slice_get (sessions_of n ++ Session n ∷ more)) at ∙ behind-sessions n (suc k) (Session n ∷ more)

-- and these are the first
session-at : (n server : ℕ) (more : List Role) → server < n → slice_get (sessions_of n ++ more) server ≡ Some (Session server)
session-at zero server more low = absurd (omega arith)
session-at (suc n) server more low =
    ap (λ (roles : List Role). slice_get roles server) (append_assoc (sessions_of n) (Session n ∷ []) more)
    ∙ elim (cases_lt server n) [
      | inl lt ↦ session-at n server (Session n ∷ more) lt
      | inr ge ↦
          (let here : server ≡ n = omega arith in
          let at : server ≡ n + 0 = omega arith in
          ap (slice_get (sessions_of n ++ Session n ∷ more)) at ∙ behind-sessions n 0 (Session n ∷ more) ∙ ap (λ (k : ℕ). Some (Session k)) (sym here))
    ]

hand-at : (worker n k : ℕ) (role : Role) → slice_get (hands_at worker n) k ≡ Some role → role ≡ Hand worker
hand-at worker zero k role is = (let never : ◌≡◌ {A = Option Role} None (Some role) = is in absurd (cc))
hand-at worker (suc n) k role is = elim (in-either (hands_at worker n) (Hand worker ∷ []) k role is) [
  | inl front ↦ hand-at worker n k role front
  | inr last ↦ one last.0 last.1
]
  where
    one : (j : ℕ) → slice_get (Hand worker ∷ []) j ≡ Some role → role ≡ Hand worker
    one zero at = (let same : Some (Hand worker) ≡ Some role = at in cc)
    one (suc j) at = (let never : ◌≡◌ {A = Option Role} None (Some role) = at in absurd (cc))

-- who stands among the hands is one of a worker that is there
abbrev IsHand : ℕ → Role → Type 0
IsHand workers role = (worker : ℕ) × (worker < workers) × (role ≡ Hand worker)

a-hand : (threads n k : ℕ) (role : Role) → slice_get (hands_of threads n) k ≡ Some role → IsHand n role
a-hand threads zero k role is = (let never : ◌≡◌ {A = Option Role} None (Some role) = is in absurd (cc))
a-hand threads (suc n) k role is = elim (in-either (hands_of threads n) (hands_at n threads) k role is) [
  | inl front ↦ (let found = a-hand threads n k role front in (found.0, (let low = found.1 in omega arith), found.2))
  | inr last ↦ (n, omega arith, hand-at n threads last.0 role last.1)
]

-- Whose number is whose.

module _ (with : Use) where
  abbrev roles : List Role
  roles = roles_of with

  abbrev hands : List Role
  hands = hands_of with.threads with.workers

  puller-at : slice_get roles with.servers ≡ Some Puller
  puller-at = (let at : with.servers ≡ with.servers + 0 = omega arith in ap (slice_get roles) at ∙ behind-sessions with.servers 0 (Puller ∷ Admin ∷ hands))

  pub admin-at : slice_get roles (with.servers + 1) ≡ Some Admin
  admin-at = behind-sessions with.servers 1 (Puller ∷ Admin ∷ hands)

  hand-behind : (a : ℕ) (role : Role) → with.servers + 2 ≤ a → slice_get roles a ≡ Some role → IsHand with.workers role
  hand-behind a role high is =
      let k : ℕ = a - (with.servers + 2) in
      let at : with.servers + (2 + k) ≡ a = omega arith in
      let two : 2 + k ≡ suc (suc k) = omega arith in
      let there : slice_get hands k ≡ Some role =
      ap (slice_get (Puller ∷ Admin ∷ hands)) (sym two) ∙ sym (behind-sessions with.servers (2 + k) (Puller ∷ Admin ∷ hands)) ∙ ap (slice_get roles) at ∙ is in
      a-hand with.threads with.workers k role there

  pub numbered : (n : ℕ) (role : Role) → slice_get roles n ≡ Some role → IsNumbered role with n
  numbered n role is = elim (cases_lt n with.servers) [
    | inl low ↦
        (let same : Some (Session n) ≡ Some role = sym (session-at with.servers n (Puller ∷ Admin ∷ hands) low) ∙ is in
        let role_is : Session n ≡ role = cc in
        subst (λ (r : Role). IsNumbered r with n) role_is (refl, low))
    | inr more ↦ elim (cases_lt n (with.servers + 1)) [
      | inl here ↦
          (let at : n ≡ with.servers = omega arith in
          let same : Some Puller ≡ Some role = sym puller-at ∙ ap (slice_get roles) (sym at) ∙ is in
          let role_is : Puller ≡ role = cc in
          subst (λ (r : Role). IsNumbered r with n) role_is at)
      | inr past ↦ elim (cases_lt n (with.servers + 2)) [
        | inl last ↦
            (let at : n ≡ with.servers + 1 = omega arith in
            let same : Some Admin ≡ Some role = sym admin-at ∙ ap (slice_get roles) (sym at) ∙ is in
            let role_is : Admin ≡ role = cc in
            subst (λ (r : Role). IsNumbered r with n) role_is at)
        | inr high ↦
            (let hand = hand-behind n role high is in
            subst (λ (r : Role). IsNumbered r with n) (sym hand.2) (omega (arith, high), hand.1))
      ]
    ]
  ]

  pub script-roles : (s : Setting) → s.servers ≡ with.servers → s.roles ≡ roles → AreScriptRoles s
  script-roles s servers roles_are = record {
    session = λ server low. ap (λ (xs : List Role). slice_get xs server) roles_are ∙ session-at with.servers server (Puller ∷ Admin ∷ hands) (omega arith);
    puller = ap (λ (xs : List Role). slice_get xs s.servers) roles_are ∙ ap (slice_get roles) servers ∙ puller-at;
    admin = ap (λ (xs : List Role). slice_get xs (s.servers + 1)) roles_are ∙ ap (λ (n : ℕ). slice_get roles (n + 1)) servers ∙ admin-at;
    hand = λ a role high is. (let hand = hand-behind a role (omega arith) (ap (λ (xs : List Role). slice_get xs a) (sym roles_are) ∙ is) in (hand.0, hand.2));
  }

  -- each is of a server or a worker that is there
  of-setting : (s : Setting) → s.servers ≡ with.servers → s.workers ≡ with.workers → (n : ℕ) (role : Role) → IsNumbered role with n → IsRoleOf s role
  of-setting s servers workers n (Session server) is = (let same = is.0 in let low = is.1 in omega (arith, same, low, servers))
  of-setting s servers workers n Puller is = tt
  of-setting s servers workers n Admin is = tt
  of-setting s servers workers n (Hand worker) is = (let low = is.1 in omega (arith, low, workers))

  -- so a core for them can be opened, with pullers behind them too
  module _ (more : List Role) (pullers : (k : ℕ) (role : Role) → slice_get more k ≡ Some role → role ≡ Puller) where
    there-is : (s : Setting) → s.servers ≡ with.servers → s.workers ≡ with.workers → (n : ℕ) (role : Role) → slice_get (roles ++ more) n ≡ Some role → IsRoleOf s role
    there-is s servers workers n role is = elim (in-either roles more n role is) [
      | inl front ↦ of-setting s servers workers n role (numbered n role front)
      | inr behind ↦ subst (IsRoleOf s) (sym (pullers behind.0 role behind.1)) tt
    ]

    one-admin : (n : ℕ) → slice_get (roles ++ more) n ≡ Some Admin → n ≡ with.servers + 1
    one-admin n is = elim (in-either roles more n Admin is) [
      | inl front ↦ numbered n Admin front
      | inr behind ↦ (let never : Admin ≡ Puller = pullers behind.0 Admin behind.1 in absurd (cc))
    ]

    pub opens-with : (h : List Dimension) → CanOpen h with → IsSetting (setting_for h with (roles ++ more))
    opens-with h can = record {
      hierarchy = can.hierarchy;
      servers = can.servers;
      workers = can.workers;
      enough = can.enough;
      few = can.few;
      roles = λ i d low. there-is (setting_for h with (roles ++ more)) refl refl i (get_or (roles ++ more) i d) (slice_get-get_or (roles ++ more) i d low);
      admin = λ a b at_a at_b. one-admin a at_a ∙ sym (one-admin b at_b);
    }

  pub opens : (h : List Dimension) → CanOpen h with → IsSetting (setting_for h with roles)
  opens h can = subst (λ (rs : List Role). IsSetting (setting_for h with rs)) (append-nil roles) (opens-with [] (λ k role at. cc) h can)

-- How they are listed, and how many there are where each number is a byte.

pub roles-listed : (with : Use) (none sessions then admin all : List Role) → none ≡ [] → sessions ≡ none ++ sessions_of with.servers → then ≡ sessions ++ Puller ∷ []
    → admin ≡ then ++ Admin ∷ [] → all ≡ admin ++ hands_of with.threads with.workers → all ≡ roles_of with
roles-listed with none sessions then admin all none_is sessions_are then_is admin_is all_are =
    let first = sessions_of with.servers in
    let hands = hands_of with.threads with.workers in
    let front : sessions ≡ first = sessions_are ∙ ap (λ (xs : List Role). xs ++ first) none_is in
    let puller : then ≡ first ++ Puller ∷ [] = then_is ∙ ap (λ (xs : List Role). xs ++ Puller ∷ []) front in
    let before : admin ≡ (first ++ Puller ∷ []) ++ Admin ∷ [] = admin_is ∙ ap (λ (xs : List Role). xs ++ Admin ∷ []) puller in
    all_are ∙ ap (λ (xs : List Role). xs ++ hands) before ∙ append_assoc (first ++ Puller ∷ []) (Admin ∷ []) hands ∙ append_assoc first (Puller ∷ []) (Admin ∷ hands)

length-sessions : (n : ℕ) → length (sessions_of n) ≡ n
length-sessions zero = refl
length-sessions (suc n) = let rest = length-sessions n in let both = length-append (sessions_of n) (Session n ∷ []) in omega arith

length-at : (worker n : ℕ) → length (hands_at worker n) ≡ n
length-at worker zero = refl
length-at worker (suc n) = let rest = length-at worker n in let both = length-append (hands_at worker n) (Hand worker ∷ []) in omega arith

few-hands : (most threads n : ℕ) → threads ≤ most → length (hands_of threads n) ≤ n * most
few-hands most threads zero few = omega arith
few-hands most threads (suc n) few =
    let rest = few-hands most threads n few in
    let here = length-at n threads in
    let both = length-append (hands_of threads n) (hands_at n threads) in
    let more : suc n * most ≡ n * most + most = omega arith in omega (arith, rest, here, both, more, few)

-- there are so many hands at most
pub most-actors : (with : Use) (most : ℕ) → with.threads ≤ most → length (roles_of with) ≤ with.servers + 2 + with.workers * most
most-actors with most threads =
    let front = length-sessions with.servers in
    let back = few-hands most with.threads with.workers threads in
    let both = length-append (sessions_of with.servers) (Puller ∷ Admin ∷ hands_of with.threads with.workers) in omega (arith, front, back, both)

pub few-actors : (with : Use) → with.servers ≤ 255 → with.workers ≤ 255 → with.threads ≤ 255 → length (roles_of with) < 2 ^ 16
few-actors with servers workers threads = (let most = most-actors with 255 threads in omega (arith, most, servers, workers))

-- In a script there are few, and a core can open for it.

pub can-open : (h : List Dimension) (with : Use) → AreSettings with → IsHierarchy h → CanOpen h with
can-open h with settings hierarchy = record {
  hierarchy = hierarchy;
  servers = omega (arith, settings.servers.0);
  workers = omega (arith, settings.workers.0);
  enough = omega (arith, settings.workers.1, settings.cells.0);
  few = omega (arith, settings.servers.1, settings.workers.1, settings.cells.1);
}

pub few-in-script : (with : Use) → AreSettings with → length (roles_of with) ≤ 256
few-in-script with settings = (let most = most-actors with 8 (omega (arith, settings.threads.1)) in omega (arith, most, settings.servers.1, settings.workers.1))
