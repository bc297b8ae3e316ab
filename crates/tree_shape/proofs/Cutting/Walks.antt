-- A division in the middle of a walk
use Rattle.std.proofs.{Common.{◌≡◌, ◌≢◌, ℕ, ◌+◌, true, false, cond, eqb, List, [], ◌∷◌, refl, sym, ◌∙◌, arith}, lemmas.Bool.{eqb-false, eqb-true}}
use Rattle.list_words.specs.Counts.{same, times}
use Rattle.tree_shape.specs.{Shape.Node, Walks.{IsTail, IsWalk}}
use Rattle.tree_shape.proofs.Cutting.Relations.{Relinked, put_behind}
use Rattle.list_words.proofs.{Times.{same_is, same_not}, Truth.on_bool}

-- the step where the head is c, and where it is not
pub put_behind-at : (c n y : ℕ) (ys : List ℕ) → eqb y c ≡ true → put_behind c n (y ∷ ys) ≡ y ∷ n ∷ put_behind c n ys
put_behind-at c n y ys h = rw h refl

pub put_behind-past : (c n y : ℕ) (ys : List ℕ) → eqb y c ≡ false → put_behind c n (y ∷ ys) ≡ y ∷ put_behind c n ys
put_behind-past c n y ys h = rw h refl

pub times-put_behind_other : (c n z : ℕ) (ws : List ℕ) → z ≢ n → times z (put_behind c n ws) ≡ times z ws
times-put_behind_other c n z [] e = refl
times-put_behind_other c n z (y ∷ ys) e =
    let ih = times-put_behind_other c n z ys e in
    on_bool (eqb y c)
    (λ h. rw (put_behind-at c n y ys h) (omega (arith, same_not z n e, ih)))
    (λ h. rw (put_behind-past c n y ys h) (omega (arith, ih)))

pub times-put_behind_new : (c n : ℕ) (ws : List ℕ) → c ≢ n → times n (put_behind c n ws) ≡ times c ws + times n ws
times-put_behind_new c n [] e = refl
times-put_behind_new c n (y ∷ ys) e =
    let ih = times-put_behind_new c n ys e in
    on_bool (eqb y c)
    (λ h. let k : y ≡ c = eqb-true y c h in let j : c ≡ y = sym k in
    rw (put_behind-at c n y ys h) (omega (arith, same_is n n refl, same_is c y j, ih)))
    (λ h. let k : y ≢ c = eqb-false y c h in let j : c ≢ y = (λ w. k (sym w)) in
    rw (put_behind-past c n y ys h) (omega (arith, same_not c y j, ih)))

-- what stands behind y, where y may be c
abbrev pub rest : ℕ → ℕ → ℕ → List ℕ → List ℕ
rest c n y zs = cond (eqb y c) (n ∷ put_behind c n zs) (put_behind c n zs)

pub put_behind-head : (c n z : ℕ) (zs : List ℕ) → put_behind c n (z ∷ zs) ≡ z ∷ rest c n z zs
put_behind-head c n z zs = on_bool (eqb z c) (λ h. rw h refl) (λ h. rw h refl)

tail_at : (look look2 : ℕ → Node) (c n t s : ℕ) (w : List ℕ) → Relinked look look2 c n t → s ≢ t → IsTail look2 s n w → IsTail look2 s c (n ∷ w)
tail_at look look2 c n t s w x e h = ((λ q. e (sym q ∙ x.head_stamp)), x.head_right, h)

-- the walk stays one, with n behind c
pub tail-put_behind : (look look2 : ℕ → Node) (c n t s y : ℕ) (zs : List ℕ) → Relinked look look2 c n t → s ≢ t → y ≢ n → times n zs ≡ 0 → IsTail look s y zs → IsTail look2 s y (rest c n y zs)
tail-put_behind look look2 c n t s y [] x e a o h =
    on_bool (eqb y c)
    (λ b. let k : y ≡ c = eqb-true y c b in rw (b, k) (tail_at look look2 c n t s [] x e (x.new_stamp ∙ (rw k at h))))
    (λ b. rw b (x.other_stamp y (eqb-false y c b) a ∙ h))
tail-put_behind look look2 c n t s y (z ∷ zs) x e a o h =
    let zn : z ≢ n = λ q. absurd (let m : same n z ≡ 1 = same_is n z (sym q) in omega arith) in
    let on : times n zs ≡ 0 = omega arith in
    let ih = tail-put_behind look look2 c n t s z zs x e zn on h.2 in
    on_bool (eqb y c)
    (λ b. let k : y ≡ c = eqb-true y c b in
    let hc = rw k at h in
    rw (b, k, put_behind-head c n z zs) (tail_at look look2 c n t s (z ∷ rest c n z zs) x e ((λ q. hc.0 (sym x.new_stamp ∙ q)), x.new_right ∙ hc.1, ih)))
    (λ b. let yc = eqb-false y c b in
    rw (b, put_behind-head c n z zs) ((λ q. h.0 (sym (x.other_stamp y yc a) ∙ q)), x.other_right y yc a ∙ h.1, ih))

pub walk-put_behind : (look look2 : ℕ → Node) (c n t s y : ℕ) (ws : List ℕ) → Relinked look look2 c n t → s ≢ t → times n ws ≡ 0 → IsWalk look y s ws → IsWalk look2 y s (put_behind c n ws)
walk-put_behind look look2 c n t s y ws x e o (zs, is, h) =
    let p : times n (y ∷ zs) ≡ 0 = rw is at o in
    let yn : y ≢ n = λ q. absurd (let m : same n y ≡ 1 = same_is n y (sym q) in omega arith) in
    let on : times n zs ≡ 0 = omega arith in
    (rest c n y zs, rw (is, put_behind-head c n y zs) refl, tail-put_behind look look2 c n t s y zs x e yn on h)
