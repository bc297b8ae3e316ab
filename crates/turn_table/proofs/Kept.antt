-- Each step keeps the rule of the table.
use Rattle.std.proofs.{Common.{◌≡◌, ◌≢◌, ◌⊎◌, ℕ, ◌+◌, ◌<◌, ◌≤◌, nat_lt, Bool, true, false, cond, List, [], ◌∷◌, ◌++◌, length, get_or, set, sym, refl, ap, ◌∙◌, subst, ⊎_elim, inl, inr, arith, Option, Some, length-set, get_or-set_other, get_or-set_same, append_assoc, length-append}, lemmas.Bool.{lt-ltb, le-ltb}}
use mathlib.Core.Logic.{dite}
use mathlib.Core.Option.{none, some, some-ne-none, some-injective}
use mathlib.Core.Option as maybe
use native.Mathlib.Decide.{ℕ_discrete, dec_lt}
use lib.ListN.{get_elem?}
use lib.Seq.{set-get_or}
use Rattle.atomic_table.specs.Table.{State}
use Rattle.atomic_table.proofs.Lists.{at_set, set_here, set_else, at_longer, at_last}
use Rattle.turn_table.specs.{Numbered.{value_of, numbers_of, HaveOwnNumbers, Extends, longer, shorter}, Rule.{Agrees, IsPlaced, Rests, IsHeld, IsUnderTurns}, Views.{HasAll, lone, seen_of, after_take, after_split, split_view, joined_view, spent_view}, declared.view.View.View}
use Rattle.turn_table.proofs.Numbered.{put, put_here, put_else, find_here, find_else, found, some_or_none, find_same, below_length, there, starts_self, starts_nil, without_here, without_else, at_end, find_append, find_append_first, find_append_second, whole_prefix, distinct_end, distinct_same, apart_both, apart_without}

module _ {Cell Actor Entry : Type 0} (invariant : List Cell → List Actor → Type 0) (log_at : ℕ) (log : Cell → List Entry) (needs : Actor → ℕ → Type 0) (count : ℕ) where
  abbrev V : Type 0
  V = View Cell Actor Entry

  abbrev St : Type 0
  St = State (Option Cell) V

  abbrev Rule : St → Type 0
  Rule = IsUnderTurns invariant log_at log needs count

  seats_stay : (K : ℕ → V → Type 0) (vs : List V) (me : ℕ) (w : V) → K me w → ((j : ℕ) (d : V) → j ≢ me → get_elem? vs j ≡ some d → K j d) → (j : ℕ) (d : V) → get_elem? (set vs me w) j ≡ some d → K j d
  seats_stay K vs me w mine others j d e = ⊎_elim (λ (t : (j ≡ me) × (w ≡ d)). subst (λ (x : ℕ × V). K x.0 x.1) (λ i. (sym t.0 i, t.1 i)) mine)
      (λ (t : (j ≢ me) × (get_elem? vs j ≡ some d)). others j d t.0 t.1) (at_set vs me j w d e)

  -- the view of the seat j, which is the new one where it is the seat that steps
  moved : (P : V → Type 0) (views : List V) (id j : ℕ) (v w u : V) → get_elem? views id ≡ some v → get_elem? views j ≡ some u → P u → (u ≡ v → P w) → (x : V) × (get_elem? (set views id w) j ≡ some x) × P x
  moved P views id j v w u at e p step = dite (ℕ_discrete j id)
      (λ (same : j ≡ id). (w, ap (get_elem? (set views id w)) same ∙ set_here views id w (below_length views id v at), step (some-injective u v (sym e ∙ (ap (get_elem? views) same ∙ at)))))
      (λ (ne : j ≢ id). (u, set_else views id j w ne ∙ e, p))

  word_here : (words : List ℕ) (k x : ℕ) → k < length words → get_or (set words k x) k 0 ≡ x
  word_here words k x h = get_or-set_same words k x 0 h

  word_else : (words : List ℕ) (k j x : ℕ) → j ≢ k → get_or (set words k x) j 0 ≡ get_or words j 0
  word_else words k j x ne = get_or-set_other words k j x 0 ne

  starts_trans : (xs ys zs : List Entry) → Extends xs ys → Extends ys zs → Extends xs zs
  starts_trans xs ys zs a b = (a.0 ++ b.0, a.1 ∙ (ap (λ (l : List Entry). a.0 ++ l) b.1 ∙ sym (append_assoc a.0 b.0 zs)))

  -- the turn of a free cell is had
  pub takes : (s : St) (r : Rule s) (id k : ℕ) (v : V) (c : Cell) → get_elem? s.views id ≡ some v → v.actors ≢ [] → get_elem? r.cells k ≡ some c → get_or s.words k 0 ≡ 0
      → Rule record { words = set s.words k (v.number + 1); homes = set s.homes k none; views = set s.views id (after_take log_at log v k c) }
  takes s r id k v c at active here free =
      let w : V = after_take log_at log v k c in
      let mine : Agrees log_at log r.cells r.actors v × IsPlaced needs r.holder r.home s.words id v = r.each_seat id v at in
      let within : k < length s.words = let b : k < length r.cells = below_length r.cells k c here in omega (arith, r.wide) in
      let words' : List ℕ = set s.words k (v.number + 1) in
      let holder' : ℕ → ℕ = put r.holder k id in
      let free_k : value_of v.held k ≡ none = ⊎_elim (λ (t : (x : Cell) × (value_of v.held k ≡ some x)). absurd (let h : get_or s.words k 0 ≡ v.number + 1 = (mine.1.holds k t.0 t.1).1 in omega arith)) (λ (n : value_of v.held k ≡ none). n) (some_or_none (value_of v.held k)) in
      let in_w : value_of w.held k ≡ some c = find_append_second v.held ((k, c) ∷ []) k free_k ∙ find_here [] k c in
      let else_w : (j : ℕ) → j ≢ k → value_of w.held j ≡ value_of v.held j = λ j ne. ⊎_elim (λ (t : (x : Cell) × (value_of v.held j ≡ some x)). find_append_first v.held ((k, c) ∷ []) j t.0 t.1 ∙ sym t.1)
      (λ (n : value_of v.held j ≡ none). find_append_second v.held ((k, c) ∷ []) j n ∙ (find_else [] k j c (λ q. ne (sym q)) ∙ sym n)) (some_or_none (value_of v.held j)) in
      let found_w : (j : ℕ) (d : Cell) → value_of w.held j ≡ some d → ((k ≡ j) × (c ≡ d)) ⊎ ((k ≢ j) × (value_of v.held j ≡ some d)) = λ j d f. dite (ℕ_discrete k j)
      (λ (q : k ≡ j). inl (q, some-injective c d (sym in_w ∙ (ap (value_of w.held) q ∙ f)))) (λ (n : k ≢ j). inr (n, sym (else_w j (λ q. n (sym q))) ∙ f)) in
      let still : (j : ℕ) (u : V) (k1 : ℕ) (c1 : Cell) → IsPlaced needs r.holder r.home s.words j u → value_of u.held k1 ≡ some c1 → (k1 ≢ k) × (holder' k1 ≡ j) × (get_or words' k1 0 ≡ u.number + 1) =
      λ j u k1 c1 p f. let h = p.holds k1 c1 f in let ne : k1 ≢ k = λ q. let z : get_or s.words k1 0 ≡ 0 = ap (λ (i : ℕ). get_or s.words i 0) q ∙ free in let y : get_or s.words k1 0 ≡ u.number + 1 = h.1 in omega arith in
      (ne, put_else r.holder k id k1 ne ∙ h.0, word_else s.words k k1 (v.number + 1) ne ∙ h.1) in
      record {
        cells = r.cells;
        actors = r.actors;
        holder = holder';
        home = r.home;
        wide = length-set s.words k (v.number + 1) ∙ r.wide;
        deep = length-set s.homes k none ∙ r.deep;
        many = r.many;
        logged = r.logged;
        valid = r.valid;
        each_cell = λ j d e. dite (ℕ_discrete j k)
            (λ (same : j ≡ k). let cd : c ≡ d = some-injective c d (sym here ∙ (ap (get_elem? r.cells) (sym same) ∙ e)) in
            inr (
              (λ q. let a : get_or words' j 0 ≡ v.number + 1 = ap (λ (i : ℕ). get_or words' i 0) same ∙ word_here s.words k (v.number + 1) within in let b : get_or words' j 0 ≡ 0 = q in omega arith),
              (w, ap (get_elem? (set s.views id w)) (ap holder' same ∙ put_here r.holder k id) ∙ set_here s.views id w (below_length s.views id v at), ap (value_of w.held) same ∙ (in_w ∙ ap (λ (x : Cell). some x) cd)),
            ))
            (λ (ne : j ≢ k). ⊎_elim
            (λ (t : Rests s j d). inl (word_else s.words k j (v.number + 1) ne ∙ t.0, set_else s.homes k j none ne ∙ t.1))
            (λ (t : IsHeld s (r.holder j) j d). inr (
              (λ q. t.0 (sym (word_else s.words k j (v.number + 1) ne) ∙ q)),
              (let m = moved (λ (u : V). value_of u.held j ≡ some d) s.views id (r.holder j) v w t.1.0 at t.1.1 t.1.2 (λ (q : t.1.0 ≡ v). else_w j ne ∙ (ap (λ (u : V). value_of u.held j) (sym q) ∙ t.1.2)) in
                  (m.0, ap (get_elem? (set s.views id w)) (put_else r.holder k id j ne) ∙ m.1, m.2)),
            ))
            (r.each_cell j d e));
        each_seat = seats_stay (λ (j : ℕ) (u : V). Agrees log_at log r.cells r.actors u × IsPlaced needs holder' r.home words' j u) s.views id w (
          record {
            held = λ k1 c1 f. ⊎_elim (λ (t : (k ≡ k1) × (c ≡ c1)). ap (get_elem? r.cells) (sym t.0) ∙ (here ∙ ap (λ (x : Cell). some x) t.1)) (λ (t : (k ≢ k1) × (value_of v.held k1 ≡ some c1)). mine.0.held k1 c1 t.1) (found_w k1 c1 f);
            own = mine.0.own;
            seen = λ d e. dite (ℕ_discrete k log_at)
                (λ (same : k ≡ log_at). let cd : c ≡ d = some-injective c d (sym here ∙ (ap (get_elem? r.cells) same ∙ e)) in
                subst (λ (z : maybe.Option Cell). Extends (log d) (seen_of log z v.seen)) (sym (ap (value_of ((k, c) ∷ [])) (sym same) ∙ (find_here [] k c ∙ ap (λ (x : Cell). some x) cd))) (starts_self (log d)))
                (λ (ne : k ≢ log_at). subst (λ (z : maybe.Option Cell). Extends (log d) (seen_of log z v.seen)) (sym (find_else [] k log_at c ne)) (mine.0.seen d e));
            told = mine.0.told;
            fresh = λ d f. ⊎_elim
                (λ (t : (k ≡ log_at) × (c ≡ d)). subst (λ (z : maybe.Option Cell). seen_of log z v.seen ≡ log d) (sym (ap (value_of ((k, c) ∷ [])) (sym t.0) ∙ (find_here [] k c ∙ ap (λ (x : Cell). some x) t.1))) refl)
                (λ (t : (k ≢ log_at) × (value_of v.held log_at ≡ some d)). subst (λ (z : maybe.Option Cell). seen_of log z v.seen ≡ log d) (sym (find_else [] k log_at c t.0)) (mine.0.fresh d t.1))
                (found_w log_at d f);
          },
          record {
            holds = λ k1 c1 f. ⊎_elim (λ (t : (k ≡ k1) × (c ≡ c1)). (ap holder' (sym t.0) ∙ put_here r.holder k id, ap (λ (i : ℕ). get_or words' i 0) (sym t.0) ∙ word_here s.words k (v.number + 1) within))
                (λ (t : (k ≢ k1) × (value_of v.held k1 ≡ some c1)). let q = still id v k1 c1 mine.1 t.1 in (q.1, q.2)) (found_w k1 c1 f);
            has = mine.1.has;
            distinct = distinct_end v.held k c free_k mine.1.distinct;
            apart = mine.1.apart;
            own = mine.1.own;
            bare = λ e. absurd (active e);
            keep = λ i a j f n. let o = mine.1.keep i a j f n in (o.0, find_append_first v.held ((k, c) ∷ []) j o.0 o.1);
          },
        )
            (λ j u ne e. let old = r.each_seat j u e in (old.0, record { holds = λ k1 c1 f. let q = still j u k1 c1 old.1 f in (q.1, q.2); has = old.1.has; distinct = old.1.distinct; apart = old.1.apart; own = old.1.own; bare = old.1.bare; keep = old.1.keep }));
        each_count = seats_stay (λ (j : ℕ) (u : V). u.actors ≢ [] → (u.cell_count ≡ length r.cells) × (u.actor_count ≡ length r.actors)) s.views id w (r.each_count id v at) (λ j u ne e. r.each_count j u e);
        each_actor = λ i a e. let old = r.each_actor i a e in moved (λ (u : V). value_of u.actors i ≡ some a) s.views id (r.home i) v w old.0 at old.1 old.2 (λ q. ap (λ (u : V). value_of u.actors i) (sym q) ∙ old.2);
        each_known = seats_stay (λ (j : ℕ) (u : V). HasAll count u → (k1 : ℕ) (c1 : Cell) → value_of u.known k1 ≡ some c1 → get_elem? r.cells k1 ≡ some c1) s.views id w
            (λ all k1 c1 f. ⊎_elim (λ (t : (k ≡ k1) × (c ≡ c1)). ap (get_elem? r.cells) (sym t.0) ∙ (here ∙ ap (λ (x : Cell). some x) t.1)) (λ (t : (k ≢ k1) × (value_of v.known k1 ≡ some c1)). r.each_known id v at all k1 c1 t.1) (found v.known k k1 c c1 f))
            (λ j u ne e. r.each_known j u e);
        whole = let m = moved (λ (u : V). (u.actors ≢ []) × ((d : Cell) → get_elem? r.cells log_at ≡ some d → log d ≡ u.seen)) s.views id r.whole.0 v w r.whole.1 at r.whole.2 (r.whole.3, r.whole.4)
            (λ q. (
              active,
              λ d e. dite (ℕ_discrete k log_at)
                  (λ (same : k ≡ log_at). let cd : c ≡ d = some-injective c d (sym here ∙ (ap (get_elem? r.cells) same ∙ e)) in
                  subst (λ (z : maybe.Option Cell). log d ≡ seen_of log z v.seen) (sym (ap (value_of ((k, c) ∷ [])) (sym same) ∙ (find_here [] k c ∙ ap (λ (x : Cell). some x) cd))) refl)
                  (λ (ne : k ≢ log_at). subst (λ (z : maybe.Option Cell). log d ≡ seen_of log z v.seen) (sym (find_else [] k log_at c ne)) (r.whole.4 d e ∙ ap (λ (u : V). u.seen) q)),
            ))
            in (r.whole.0, m.0, m.1, m.2.0, m.2.1);
      }

  -- a held cell is given back. The other held cells may have new values, and the seat's actors too
  pub gives : (s : St) (r : Rule s) (id k : ℕ) (v w : V) (c c' : Cell) (cells' : List Cell) (actors' : List Actor)
      → get_elem? s.views id ≡ some v → value_of v.held k ≡ some c → HaveOwnNumbers ((k, c') ∷ w.held)
      → ((j : ℕ) (d : Cell) → value_of ((k, c') ∷ w.held) j ≡ some d → (e : Cell) × (value_of v.held j ≡ some e)) → ((j : ℕ) → value_of ((k, c') ∷ w.held) j ≡ none → value_of v.held j ≡ none) → w.number ≡ v.number → numbers_of w.actors ≡ numbers_of v.actors
      → invariant cells' actors' → length cells' ≡ length r.cells → length actors' ≡ length r.actors
      → ((j : ℕ) (d : Cell) → value_of ((k, c') ∷ w.held) j ≡ some d → get_elem? cells' j ≡ some d) → ((j : ℕ) → value_of ((k, c') ∷ w.held) j ≡ none → get_elem? cells' j ≡ get_elem? r.cells j)
      → ((i : ℕ) (a : Actor) → value_of w.actors i ≡ some a → get_elem? actors' i ≡ some a) → ((i : ℕ) → value_of v.actors i ≡ none → get_elem? actors' i ≡ get_elem? r.actors i)
      → ((d e : Cell) → get_elem? r.cells log_at ≡ some d → get_elem? cells' log_at ≡ some e → Extends (log e) (log d))
      → ((d : Cell) → value_of ((k, c') ∷ w.held) log_at ≡ some d → w.seen ≡ log d) → (value_of ((k, c') ∷ w.held) log_at ≡ none → w.seen ≡ v.seen)
      → (HasAll count v → (k1 : ℕ) (c1 : Cell) → value_of w.known k1 ≡ some c1 → get_elem? cells' k1 ≡ some c1)
      → ((i : ℕ) (a : Actor) (j : ℕ) → value_of w.actors i ≡ some a → needs a j → (d : Cell) × (value_of w.held j ≡ some d)) → w.told ≡ v.told → w.cell_count ≡ v.cell_count → w.actor_count ≡ v.actor_count
      → Rule record { words = set s.words k 0; homes = set s.homes k (some (Some c')); views = set s.views id w }
  gives s r id k v w c c' cells' actors' at had distinct' back none_back as_number as_actors valid' long many' wrote same_else own own_else grows seen_in seen_out knows keep_left as_told as_cells as_count =
      let mine : Agrees log_at log r.cells r.actors v × IsPlaced needs r.holder r.home s.words id v = r.each_seat id v at in
      let new : List (ℕ × Cell) = (k, c') ∷ w.held in
      let within : k < length s.words = let b : k < length r.cells = below_length r.cells k c (mine.0.held k c had) in omega (arith, r.wide) in
      let deep : k < length s.homes = let b : k < length r.cells = below_length r.cells k c (mine.0.held k c had) in omega (arith, r.deep) in
      let holds_k : r.holder k ≡ id = (mine.1.holds k c had).0 in
      let active : v.actors ≢ [] = λ e. some-ne-none c (sym had ∙ ap (λ (ps : List (ℕ × Cell)). value_of ps k) (mine.1.bare e)) in
      let apart : (j : ℕ) (d : Cell) → value_of w.held j ≡ some d → k ≢ j = λ j d f q. some-ne-none d (sym f ∙ (ap (value_of w.held) (sym q) ∙ distinct'.0)) in
      let mine_only : (j : ℕ) (u : V) (k1 : ℕ) (c1 : Cell) → j ≢ id → IsPlaced needs r.holder r.home s.words j u → value_of u.held k1 ≡ some c1 → value_of new k1 ≡ none =
      λ j u k1 c1 ne p f. ⊎_elim (λ (t : (x : Cell) × (value_of new k1 ≡ some x)). let o = back k1 t.0 t.1 in absurd (ne (sym (p.holds k1 c1 f).0 ∙ (mine.1.holds k1 o.0 o.1).0))) (λ (n : value_of new k1 ≡ none). n) (some_or_none (value_of new k1)) in
      record {
        cells = cells';
        actors = actors';
        holder = r.holder;
        home = r.home;
        wide = length-set s.words k 0 ∙ (r.wide ∙ sym long);
        deep = length-set s.homes k (some (Some c')) ∙ (r.deep ∙ sym long);
        many = many' ∙ r.many;
        logged = omega (arith, r.logged);
        valid = valid';
        each_cell = λ j d e. dite (ℕ_discrete k j)
            (λ (same : k ≡ j). let cd : c' ≡ d = some-injective c' d (sym (wrote k c' (find_here w.held k c')) ∙ (ap (get_elem? cells') same ∙ e)) in
            inl (ap (λ (i : ℕ). get_or (set s.words k 0) i 0) (sym same) ∙ word_here s.words k 0 within, ap (get_elem? (set s.homes k (some (Some c')))) (sym same) ∙ (set_here s.homes k (some (Some c')) deep ∙ ap (λ (x : Cell). some (some (Some x))) cd)))
            (λ (ne : k ≢ j). let ne' : j ≢ k = λ q. ne (sym q) in ⊎_elim
            (λ (t : (x : Cell) × (value_of new j ≡ some x)). let xd : t.0 ≡ d = some-injective t.0 d (sym (wrote j t.0 t.1) ∙ e) in let o = back j t.0 t.1 in let h = mine.1.holds j o.0 o.1 in
            inr (
              (λ q. let a : get_or (set s.words k 0) j 0 ≡ v.number + 1 = word_else s.words k j 0 ne' ∙ h.1 in let b : get_or (set s.words k 0) j 0 ≡ 0 = q in omega arith),
              (w, ap (get_elem? (set s.views id w)) h.0 ∙ set_here s.views id w (below_length s.views id v at), sym (find_else w.held k j c' ne) ∙ (t.1 ∙ ap (λ (x : Cell). some x) xd)),
            ))
            (λ (n : value_of new j ≡ none). let e' : get_elem? r.cells j ≡ some d = sym (same_else j n) ∙ e in ⊎_elim
            (λ (t : Rests s j d). inl (word_else s.words k j 0 ne' ∙ t.0, set_else s.homes k j (some (Some c')) ne' ∙ t.1))
            (λ (t : IsHeld s (r.holder j) j d). inr (
              (λ q. t.0 (sym (word_else s.words k j 0 ne') ∙ q)),
              moved (λ (u : V). value_of u.held j ≡ some d) s.views id (r.holder j) v w t.1.0 at t.1.1 t.1.2
                  (λ (q : t.1.0 ≡ v). absurd (some-ne-none d (sym (sym (ap (λ (u : V). value_of u.held j) q) ∙ t.1.2) ∙ none_back j n))),
            ))
            (r.each_cell j d e'))
            (some_or_none (value_of new j)));
        each_seat = seats_stay (λ (j : ℕ) (u : V). Agrees log_at log cells' actors' u × IsPlaced needs r.holder r.home (set s.words k 0) j u) s.views id w (
          record {
            held = λ k1 c1 f. wrote k1 c1 (find_else w.held k k1 c' (apart k1 c1 f) ∙ f);
            own = own;
            seen = λ d e. ⊎_elim
                (λ (t : (x : Cell) × (value_of new log_at ≡ some x)). let xd : t.0 ≡ d = some-injective t.0 d (sym (wrote log_at t.0 t.1) ∙ e) in subst (Extends (log d)) (sym (seen_in t.0 t.1 ∙ ap log xd)) (starts_self (log d)))
                (λ (n : value_of new log_at ≡ none). subst (Extends (log d)) (sym (seen_out n)) (mine.0.seen d (sym (same_else log_at n) ∙ e)))
                (some_or_none (value_of new log_at));
            told = λ d e1. let t = there r.cells log_at r.logged in subst (Extends (log d)) (sym as_told) (starts_trans (log d) (log t.0) v.told (grows t.0 d t.1 e1) (mine.0.told t.0 t.1));
            fresh = λ d f. seen_in d (find_else w.held k log_at c' (apart log_at d f) ∙ f);
          },
          record {
            holds = λ k1 c1 f. let ne = apart k1 c1 f in let o = back k1 c1 (find_else w.held k k1 c' ne ∙ f) in let h = mine.1.holds k1 o.0 o.1 in
                (h.0, word_else s.words k k1 0 (λ q. ne (sym q)) ∙ (h.1 ∙ ap (λ (n : ℕ). n + 1) (sym as_number)));
            has = λ i a f. let o = find_same w.actors v.actors i a as_actors f in mine.1.has i o.0 o.1;
            distinct = distinct'.1;
            apart = distinct_same v.actors w.actors (sym as_actors) mine.1.apart;
            own = λ _. let o = mine.1.own active in let p = find_same v.actors w.actors v.number o.0 (sym as_actors) o.1 in (p.0, ap (value_of w.actors) as_number ∙ p.1);
            bare = λ e. absurd (let o = mine.1.own active in let p = find_same v.actors w.actors v.number o.0 (sym as_actors) o.1 in some-ne-none p.0 (sym p.1 ∙ ap (λ (ps : List (ℕ × Actor)). value_of ps v.number) e));
            keep = keep_left;
          },
        )
            (λ j u ne e. let old = r.each_seat j u e in (
              record {
                held = λ k1 c1 f. same_else k1 (mine_only j u k1 c1 ne old.1 f) ∙ old.0.held k1 c1 f;
                own = λ i a f. own_else i (⊎_elim (λ (t : (x : Actor) × (value_of v.actors i ≡ some x)). absurd (ne (sym (old.1.has i a f) ∙ mine.1.has i t.0 t.1))) (λ (n : value_of v.actors i ≡ none). n) (some_or_none (value_of v.actors i))) ∙ old.0.own i a f;
                seen = λ d e1. let b : log_at < length r.cells = let b' : log_at < length cells' = below_length cells' log_at d e1 in omega arith in let t = there r.cells log_at b in starts_trans (log d) (log t.0) u.seen (grows t.0 d t.1 e1) (old.0.seen t.0 t.1);
                told = λ d e1. let t = there r.cells log_at r.logged in starts_trans (log d) (log t.0) u.told (grows t.0 d t.1 e1) (old.0.told t.0 t.1);
                fresh = old.0.fresh;
              },
              record {
                holds = λ k1 c1 f. let h = old.1.holds k1 c1 f in (h.0, word_else s.words k k1 0 (λ q. ne (sym h.0 ∙ (ap r.holder q ∙ holds_k))) ∙ h.1);
                has = old.1.has;
                distinct = old.1.distinct;
                apart = old.1.apart;
                own = old.1.own;
                bare = old.1.bare;
                keep = old.1.keep;
              },
            ));
        each_count = seats_stay (λ (j : ℕ) (u : V). u.actors ≢ [] → (u.cell_count ≡ length cells') × (u.actor_count ≡ length actors')) s.views id w (λ _. let t = r.each_count id v at active in (as_cells ∙ (t.0 ∙ sym long), as_count ∙ (t.1 ∙ sym many')))
            (λ j u ne e n. let t = r.each_count j u e n in (t.0 ∙ sym long, t.1 ∙ sym many'));
        each_actor = λ i a e. ⊎_elim
            (λ (t : (x : Actor) × (value_of v.actors i ≡ some x)). let o = find_same v.actors w.actors i t.0 (sym as_actors) t.1 in let oa : o.0 ≡ a = some-injective o.0 a (sym (own i o.0 o.1) ∙ e) in
            (w, ap (get_elem? (set s.views id w)) (mine.1.has i t.0 t.1) ∙ set_here s.views id w (below_length s.views id v at), o.1 ∙ ap (λ (x : Actor). some x) oa))
            (λ (n : value_of v.actors i ≡ none). let old = r.each_actor i a (sym (own_else i n) ∙ e) in moved (λ (u : V). value_of u.actors i ≡ some a) s.views id (r.home i) v w old.0 at old.1 old.2
            (λ q. absurd (some-ne-none a (sym old.2 ∙ (ap (λ (u : V). value_of u.actors i) q ∙ n)))))
            (some_or_none (value_of v.actors i));
        each_known = seats_stay (λ (j : ℕ) (u : V). HasAll count u → (k1 : ℕ) (c1 : Cell) → value_of u.known k1 ≡ some c1 → get_elem? cells' k1 ≡ some c1) s.views id w
            (λ all k1 c1 f. knows (λ i h. let o = all i h in find_same w.actors v.actors i o.0 as_actors o.1) k1 c1 f)
            (λ j u ne e all k1 c1 f. absurd (let o = mine.1.own active in let i : v.number < count = let b = below_length r.actors v.number o.0 (mine.0.own v.number o.0 o.1) in omega (arith, r.many) in let h = all v.number i in
            ne (sym ((r.each_seat j u e).1.has v.number h.0 h.1) ∙ mine.1.has v.number o.0 o.1)));
        whole = let still_active : w.actors ≢ [] = λ e. let o = mine.1.own active in let p = find_same v.actors w.actors v.number o.0 (sym as_actors) o.1 in some-ne-none p.0 (sym p.1 ∙ ap (λ (ps : List (ℕ × Actor)). value_of ps v.number) e) in ⊎_elim
            (λ (t : (x : Cell) × (value_of new log_at ≡ some x)). (id, w, set_here s.views id w (below_length s.views id v at), still_active, (λ d e. ap log (some-injective d t.0 (sym e ∙ wrote log_at t.0 t.1)) ∙ sym (seen_in t.0 t.1))))
            (λ (n : value_of new log_at ≡ none). let m = moved (λ (u : V). (u.actors ≢ []) × ((d : Cell) → get_elem? cells' log_at ≡ some d → log d ≡ u.seen)) s.views id r.whole.0 v w r.whole.1 at r.whole.2 (r.whole.3, λ d e. r.whole.4 d (sym (same_else log_at n) ∙ e))
            (λ q. (still_active, λ d e. r.whole.4 d (sym (same_else log_at n) ∙ e) ∙ (ap (λ (u : V). u.seen) q ∙ sym (seen_out n)))) in (r.whole.0, m.0, m.1, m.2.0, m.2.1))
            (some_or_none (value_of new log_at));
      }

  -- nothing but the seat's note changes
  pub notes : (s : St) (r : Rule s) (id k : ℕ) (v w : V) → get_elem? s.views id ≡ some v → w.number ≡ v.number → w.actors ≡ v.actors → w.held ≡ v.held → w.seen ≡ v.seen → w.known ≡ v.known → w.told ≡ v.told → w.cell_count ≡ v.cell_count → w.actor_count ≡ v.actor_count
      → Rule record { words = set s.words k (get_or s.words k 0); homes = s.homes; views = set s.views id w }
  notes s r id k v w at as_number as_actors as_held as_seen as_known as_told as_cells as_count = subst (λ (ws : List ℕ). Rule record { words = ws; homes = s.homes; views = set s.views id w }) (sym (set-get_or s.words k 0))
      (let mine : Agrees log_at log r.cells r.actors v × IsPlaced needs r.holder r.home s.words id v = r.each_seat id v at in record {
        cells = r.cells;
        actors = r.actors;
        holder = r.holder;
        home = r.home;
        wide = r.wide;
        deep = r.deep;
        many = r.many;
        logged = r.logged;
        valid = r.valid;
        each_cell = λ j d e. ⊎_elim (λ (t : Rests s j d). inl t)
            (λ (t : IsHeld s (r.holder j) j d). inr (t.0, moved (λ (u : V). value_of u.held j ≡ some d) s.views id (r.holder j) v w t.1.0 at t.1.1 t.1.2 (λ q. ap (λ (ps : List (ℕ × Cell)). value_of ps j) (as_held ∙ ap (λ (u : V). u.held) (sym q)) ∙ t.1.2)))
            (r.each_cell j d e);
        each_seat = seats_stay (λ (j : ℕ) (u : V). Agrees log_at log r.cells r.actors u × IsPlaced needs r.holder r.home s.words j u) s.views id w (
          record {
            held = λ k1 c1 f. mine.0.held k1 c1 (ap (λ (ps : List (ℕ × Cell)). value_of ps k1) (sym as_held) ∙ f);
            own = λ i a f. mine.0.own i a (ap (λ (ps : List (ℕ × Actor)). value_of ps i) (sym as_actors) ∙ f);
            seen = λ d e. subst (Extends (log d)) (sym as_seen) (mine.0.seen d e);
            told = λ d e. subst (Extends (log d)) (sym as_told) (mine.0.told d e);
            fresh = λ d f. as_seen ∙ mine.0.fresh d (ap (λ (ps : List (ℕ × Cell)). value_of ps log_at) (sym as_held) ∙ f);
          },
          record {
            holds = λ k1 c1 f. let h = mine.1.holds k1 c1 (ap (λ (ps : List (ℕ × Cell)). value_of ps k1) (sym as_held) ∙ f) in (h.0, h.1 ∙ ap (λ (n : ℕ). n + 1) (sym as_number));
            has = λ i a f. mine.1.has i a (ap (λ (ps : List (ℕ × Actor)). value_of ps i) (sym as_actors) ∙ f);
            distinct = subst HaveOwnNumbers (sym as_held) mine.1.distinct;
            apart = subst HaveOwnNumbers (sym as_actors) mine.1.apart;
            own = λ n. let o = mine.1.own (λ e. n (as_actors ∙ e)) in (o.0, (λ i. value_of (as_actors i) (as_number i)) ∙ o.1);
            bare = λ e. as_held ∙ mine.1.bare (sym as_actors ∙ e);
            keep = λ i a j f n. let o = mine.1.keep i a j (ap (λ (ps : List (ℕ × Actor)). value_of ps i) (sym as_actors) ∙ f) n in (o.0, ap (λ (ps : List (ℕ × Cell)). value_of ps j) as_held ∙ o.1);
          },
        )
            (λ j u ne e. r.each_seat j u e);
        each_count = seats_stay (λ (j : ℕ) (u : V). u.actors ≢ [] → (u.cell_count ≡ length r.cells) × (u.actor_count ≡ length r.actors)) s.views id w (λ n. let t = r.each_count id v at (λ e. n (as_actors ∙ e)) in (as_cells ∙ t.0, as_count ∙ t.1)) (λ j u ne e. r.each_count j u e);
        each_actor = λ i a e. let old = r.each_actor i a e in moved (λ (u : V). value_of u.actors i ≡ some a) s.views id (r.home i) v w old.0 at old.1 old.2 (λ q. ap (λ (ps : List (ℕ × Actor)). value_of ps i) (as_actors ∙ ap (λ (u : V). u.actors) (sym q)) ∙ old.2);
        each_known = seats_stay (λ (j : ℕ) (u : V). HasAll count u → (k1 : ℕ) (c1 : Cell) → value_of u.known k1 ≡ some c1 → get_elem? r.cells k1 ≡ some c1) s.views id w
            (λ all k1 c1 f. r.each_known id v at (λ i h. let o = all i h in (o.0, ap (λ (ps : List (ℕ × Actor)). value_of ps i) (sym as_actors) ∙ o.1)) k1 c1 (ap (λ (ps : List (ℕ × Cell)). value_of ps k1) (sym as_known) ∙ f))
            (λ j u ne e. r.each_known j u e);
        whole = let m = moved (λ (u : V). (u.actors ≢ []) × ((d : Cell) → get_elem? r.cells log_at ≡ some d → log d ≡ u.seen)) s.views id r.whole.0 v w r.whole.1 at r.whole.2 (r.whole.3, r.whole.4)
            (λ q. ((λ e. r.whole.3 (ap (λ (u : V). u.actors) q ∙ (sym as_actors ∙ e))), λ d e. r.whole.4 d e ∙ (ap (λ (u : V). u.seen) q ∙ sym as_seen)))
            in (r.whole.0, m.0, m.1, m.2.0, m.2.1);
      })

  -- an actor goes with a new seat
  pub splits : (s : St) (r : Rule s) (id n : ℕ) (v : V) (a : Actor) → get_elem? s.views id ≡ some v → value_of v.actors n ≡ some a → n ≢ v.number → ((k : ℕ) → needs a k → ⊥)
      → Rule record { words = s.words; homes = s.homes; views = set s.views id (after_split v n) ++ split_view v n ∷ [] }
  splits s r id n v a at has_n other free =
      let mine : Agrees log_at log r.cells r.actors v × IsPlaced needs r.holder r.home s.words id v = r.each_seat id v at in
      let w : V = after_split v n in
      let x : V = split_view v n in
      let views' : List V = set s.views id w in
      let home' : ℕ → ℕ = put r.home n (length s.views) in
      let active : v.actors ≢ [] = λ e. some-ne-none a (sym has_n ∙ ap (λ (ps : List (ℕ × Actor)). value_of ps n) e) in
      let still_own : (o : Actor) × (value_of w.actors v.number ≡ some o) = let o = mine.1.own active in (o.0, without_else v.actors n v.number (λ e. other (sym e)) ∙ o.1) in
      let still_active : w.actors ≢ [] = λ e. some-ne-none still_own.0 (sym still_own.1 ∙ ap (λ (ps : List (ℕ × Actor)). value_of ps v.number) e) in
      let long : length views' ≡ length s.views = length-set s.views id w in
      let low : n < count = let b = below_length r.actors n a (mine.0.own n a has_n) in omega (arith, r.many) in
      let lone_is : lone (value_of v.actors n) n ≡ (n, a) ∷ [] = ap (λ (o : maybe.Option Actor). lone o n) has_n in
      let not_gone : (i : ℕ) (b : Actor) → value_of w.actors i ≡ some b → i ≢ n = λ i b f q. some-ne-none b (sym f ∙ (ap (value_of w.actors) q ∙ without_here v.actors n)) in
      record {
        cells = r.cells;
        actors = r.actors;
        holder = r.holder;
        home = home';
        wide = r.wide;
        deep = r.deep;
        many = r.many;
        logged = r.logged;
        valid = r.valid;
        each_cell = λ j d e. ⊎_elim (λ (t : Rests s j d). inl t)
            (λ (t : IsHeld s (r.holder j) j d). inr (t.0, (let m = moved (λ (u : V). value_of u.held j ≡ some d) s.views id (r.holder j) v w t.1.0 at t.1.1 t.1.2 (λ q. ap (λ (u : V). value_of u.held j) (sym q) ∙ t.1.2) in (m.0, at_longer views' (x ∷ []) (r.holder j) m.0 m.1, m.2))))
            (r.each_cell j d e);
        each_seat = λ j u e. ⊎_elim
            (λ (h : get_elem? views' j ≡ some u). seats_stay (λ (j : ℕ) (u : V). Agrees log_at log r.cells r.actors u × IsPlaced needs r.holder home' s.words j u) s.views id w (
              record {
                held = mine.0.held;
                own = λ i b f. mine.0.own i b (sym (without_else v.actors n i (not_gone i b f)) ∙ f);
                seen = mine.0.seen;
                told = mine.0.told;
                fresh = mine.0.fresh;
              },
              record {
                holds = mine.1.holds;
                has = λ i b f. let ne = not_gone i b f in put_else r.home n (length s.views) i ne ∙ mine.1.has i b (sym (without_else v.actors n i ne) ∙ f);
                distinct = mine.1.distinct;
                apart = apart_without v.actors n mine.1.apart;
                own = λ _. still_own;
                bare = λ e. absurd (still_active e);
                keep = λ i b j f m. mine.1.keep i b j (sym (without_else v.actors n i (not_gone i b f)) ∙ f) m;
              },
            )
            (λ j u ne e. let old = r.each_seat j u e in (
              old.0,
              record {
                holds = old.1.holds;
                has = λ i b f. let h = old.1.has i b f in put_else r.home n (length s.views) i (λ q. ne (sym h ∙ (ap r.home q ∙ mine.1.has n a has_n))) ∙ h;
                distinct = old.1.distinct;
                apart = old.1.apart;
                own = old.1.own;
                bare = old.1.bare;
                keep = old.1.keep;
              },
            )) j u h)
            (λ (h : (j ≡ length views') × (x ≡ u)). subst (λ (z : V). Agrees log_at log r.cells r.actors z × IsPlaced needs r.holder home' s.words j z) h.1 (
              record {
                held = λ k1 c1 f. absurd (some-ne-none c1 (sym f));
                own = λ i b f. ⊎_elim (λ (t : (n ≡ i) × (a ≡ b)). mine.0.own i b (ap (value_of v.actors) (sym t.0) ∙ (has_n ∙ ap (λ (z : Actor). some z) t.1))) (λ (t : (n ≢ i) × (value_of [] i ≡ some b)). absurd (some-ne-none b (sym t.1)))
                    (found [] n i a b (ap (λ (ps : List (ℕ × Actor)). value_of ps i) (sym lone_is) ∙ f));
                seen = mine.0.seen;
                told = λ d e. starts_nil (log d);
                fresh = λ d f. absurd (some-ne-none d (sym f));
              },
              record {
                holds = λ k1 c1 f. absurd (some-ne-none c1 (sym f));
                has = λ i b f. ⊎_elim (λ (t : (n ≡ i) × (a ≡ b)). ap home' (sym t.0) ∙ (put_here r.home n (length s.views) ∙ (sym long ∙ sym h.0))) (λ (t : (n ≢ i) × (value_of [] i ≡ some b)). absurd (some-ne-none b (sym t.1)))
                    (found [] n i a b (ap (λ (ps : List (ℕ × Actor)). value_of ps i) (sym lone_is) ∙ f));
                distinct = tt;
                apart = subst HaveOwnNumbers (sym lone_is) (refl, tt);
                own = λ _. (a, ap (λ (ps : List (ℕ × Actor)). value_of ps n) lone_is ∙ find_here [] n a);
                bare = λ _. refl;
                keep = λ i b j f m. absurd (⊎_elim (λ (t : (n ≡ i) × (a ≡ b)). free j (subst (λ (z : Actor). needs z j) (sym t.1) m)) (λ (t : (n ≢ i) × (value_of [] i ≡ some b)). some-ne-none b (sym t.1))
                    (found [] n i a b (ap (λ (ps : List (ℕ × Actor)). value_of ps i) (sym lone_is) ∙ f)));
              },
            ))
            (at_end views' x u j e);
        each_count = λ j u e. ⊎_elim
            (λ (h : get_elem? views' j ≡ some u). seats_stay (λ (j : ℕ) (u : V). u.actors ≢ [] → (u.cell_count ≡ length r.cells) × (u.actor_count ≡ length r.actors)) s.views id w (λ _. r.each_count id v at active) (λ j u ne e. r.each_count j u e) j u h)
            (λ (h : (j ≡ length views') × (x ≡ u)). λ n. let t = r.each_count id v at active in (ap (λ (z : V). z.cell_count) (sym h.1) ∙ t.0, ap (λ (z : V). z.actor_count) (sym h.1) ∙ t.1))
            (at_end views' x u j e);
        each_actor = λ i b e. dite (ℕ_discrete i n)
            (λ (same : i ≡ n). (
              x,
              ap (get_elem? (views' ++ x ∷ [])) (ap home' same ∙ put_here r.home n (length s.views)) ∙ at_last views' x (length s.views) long,
              ap (λ (ps : List (ℕ × Actor)). value_of ps i) lone_is ∙ (ap (value_of ((n, a) ∷ [])) same ∙ (find_here [] n a ∙ (sym (mine.0.own n a has_n) ∙ (ap (get_elem? r.actors) (sym same) ∙ e)))),
            ))
            (λ (ne : i ≢ n). let old = r.each_actor i b e in let m = moved (λ (u : V). value_of u.actors i ≡ some b) s.views id (r.home i) v w old.0 at old.1 old.2 (λ q. without_else v.actors n i ne ∙ (ap (λ (u : V). value_of u.actors i) (sym q) ∙ old.2)) in
            (m.0, ap (get_elem? (views' ++ x ∷ [])) (put_else r.home n (length s.views) i ne) ∙ at_longer views' (x ∷ []) (r.home i) m.0 m.1, m.2));
        each_known = λ j u e. ⊎_elim
            (λ (h : get_elem? views' j ≡ some u). seats_stay (λ (j : ℕ) (u : V). HasAll count u → (k1 : ℕ) (c1 : Cell) → value_of u.known k1 ≡ some c1 → get_elem? r.cells k1 ≡ some c1) s.views id w
            (λ all k1 c1 f. absurd (let g = all n low in not_gone n g.0 g.1 refl))
            (λ j u ne e. r.each_known j u e) j u h)
            (λ (h : (j ≡ length views') × (x ≡ u)). λ all k1 c1 f. absurd (some-ne-none c1 (sym f ∙ ap (λ (z : V). value_of z.known k1) (sym h.1))))
            (at_end views' x u j e);
        whole = let m = moved (λ (u : V). (u.actors ≢ []) × ((d : Cell) → get_elem? r.cells log_at ≡ some d → log d ≡ u.seen)) s.views id r.whole.0 v w r.whole.1 at r.whole.2 (r.whole.3, r.whole.4)
            (λ q. (still_active, λ d e. r.whole.4 d e ∙ ap (λ (u : V). u.seen) q))
            in (r.whole.0, m.0, at_longer views' (x ∷ []) r.whole.0 m.0 m.1, m.2.0, m.2.1);
      }

  shorter_is : (all xs ys : List Entry) → Extends all xs → Extends all ys → Extends all (shorter xs ys)
  shorter_is all xs ys a b = elim (nat_lt (length xs) (length ys)) as (λ (t : Bool). Extends all (cond t xs ys)) [ true ↦ a | false ↦ b ]

  longer_is : (all xs ys : List Entry) → Extends all xs → Extends all ys → Extends all (longer xs ys) × (all ≡ xs → all ≡ longer xs ys) × (all ≡ ys → all ≡ longer xs ys)
  longer_is all xs ys a b = dite (dec_lt (length xs) (length ys))
      (λ (l : length xs < length ys). let is : longer xs ys ≡ ys = ap (λ (t : Bool). cond t ys xs) (lt-ltb (length xs) (length ys) l) in
      (subst (Extends all) (sym is) b, (λ e. absurd (let t : length all ≡ length b.0 + length ys = ap length b.1 ∙ length-append b.0 ys in let u : length all ≡ length xs = ap length e in omega arith)), λ e. e ∙ sym is))
      (λ (l : ¬ (length xs < length ys)). let is : longer xs ys ≡ xs = ap (λ (t : Bool). cond t ys xs) (le-ltb (length xs) (length ys) (omega arith)) in
      (subst (Extends all) (sym is) a, (λ e. e ∙ sym is), λ e. let u : length all ≡ length ys = ap length e in let n : length ys ≤ length xs = omega arith in whole_prefix all xs a (omega arith) ∙ sym is))

  -- a seat takes in the actors of another one
  pub joins : (s : St) (r : Rule s) (id other : ℕ) (v w : V) → get_elem? s.views id ≡ some v → ¬ (other ≡ id) → get_elem? (set s.views id (joined_view v w)) other ≡ some w → v.actors ≢ [] → w.held ≡ []
      → Rule record { words = s.words; homes = s.homes; views = set (set s.views id (joined_view v w)) other spent_view }
  joins s r id other v w at apart at_other' active bare =
      let both : V = joined_view v w in
      let spent : V = spent_view in
      let at_other : get_elem? s.views other ≡ some w = sym (set_else s.views id other both apart) ∙ at_other' in
      let mine : Agrees log_at log r.cells r.actors v × IsPlaced needs r.holder r.home s.words id v = r.each_seat id v at in
      let theirs : Agrees log_at log r.cells r.actors w × IsPlaced needs r.holder r.home s.words other w = r.each_seat other w at_other in
      let one : List V = set s.views id both in
      let two : List V = set one other spent in
      let home' : ℕ → ℕ = λ i. put (λ (j : ℕ). j) other id (r.home i) in
      let here : get_elem? two id ≡ some both = set_else one other id spent (λ e. apart (sym e)) ∙ set_here s.views id both (below_length s.views id v at) in
      let home_id : (i : ℕ) → r.home i ≡ id → home' i ≡ id = λ i e. put_else (λ (j : ℕ). j) other id (r.home i) (λ q. apart (sym q ∙ e)) ∙ e in
      let home_other : (i : ℕ) → r.home i ≡ other → home' i ≡ id = λ i e. ap (put (λ (j : ℕ). j) other id) e ∙ put_here (λ (j : ℕ). j) other id in
      let home_else : (i : ℕ) → r.home i ≢ other → home' i ≡ r.home i = λ i ne. put_else (λ (j : ℕ). j) other id (r.home i) ne in
      record {
        cells = r.cells;
        actors = r.actors;
        holder = r.holder;
        home = home';
        wide = r.wide;
        deep = r.deep;
        many = r.many;
        logged = r.logged;
        valid = r.valid;
        each_cell = λ j d e. ⊎_elim (λ (t : Rests s j d). inl t)
            (λ (t : IsHeld s (r.holder j) j d). inr (
              t.0,
              (let m = moved (λ (u : V). value_of u.held j ≡ some d) s.views id (r.holder j) v both t.1.0 at t.1.1 t.1.2 (λ q. ap (λ (u : V). value_of u.held j) (sym q) ∙ t.1.2) in
                  moved (λ (u : V). value_of u.held j ≡ some d) one other (r.holder j) w spent m.0 at_other' m.1 m.2 (λ q. absurd (some-ne-none d (sym m.2 ∙ ap (λ (ps : List (ℕ × Cell)). value_of ps j) (ap (λ (u : V). u.held) q ∙ bare))))),
            ))
            (r.each_cell j d e);
        each_seat = seats_stay (λ (j : ℕ) (u : V). Agrees log_at log r.cells r.actors u × IsPlaced needs r.holder home' s.words j u) one other spent (
          record {
            held = λ k1 c1 f. absurd (some-ne-none c1 (sym f));
            own = λ i b f. absurd (some-ne-none b (sym f));
            seen = λ d e. starts_nil (log d);
            told = λ d e. starts_nil (log d);
            fresh = λ d f. absurd (some-ne-none d (sym f));
          },
          record {
            holds = λ k1 c1 f. absurd (some-ne-none c1 (sym f));
            has = λ i b f. absurd (some-ne-none b (sym f));
            distinct = tt;
            apart = tt;
            own = λ n. absurd (n refl);
            bare = λ _. refl;
            keep = λ i b j f m. absurd (some-ne-none b (sym f));
          },
        )
            (λ j u not_other e. dite (ℕ_discrete j id)
            (λ (same : j ≡ id). let is : both ≡ u = some-injective both u (sym (set_here s.views id both (below_length s.views id v at)) ∙ (ap (get_elem? one) (sym same) ∙ e)) in
            subst (λ (z : ℕ × V). Agrees log_at log r.cells r.actors z.1 × IsPlaced needs r.holder home' s.words z.0 z.1) (λ i. (sym same i, is i)) (
              record {
                held = mine.0.held;
                own = λ i b f. ⊎_elim (λ (t : value_of v.actors i ≡ some b). mine.0.own i b t) (λ (t : value_of w.actors i ≡ some b). theirs.0.own i b t) (find_append v.actors w.actors i b f);
                seen = λ d e. (longer_is (log d) v.seen w.seen (mine.0.seen d e) (theirs.0.seen d e)).0;
                told = λ d e. shorter_is (log d) v.seen w.seen (mine.0.seen d e) (theirs.0.seen d e);
                fresh = λ d f. let e = mine.0.held log_at d f in sym ((longer_is (log d) v.seen w.seen (mine.0.seen d e) (theirs.0.seen d e)).1 (sym (mine.0.fresh d f)));
              },
              record {
                holds = mine.1.holds;
                has = λ i b f. ⊎_elim (λ (t : value_of v.actors i ≡ some b). home_id i (mine.1.has i b t)) (λ (t : value_of w.actors i ≡ some b). home_other i (theirs.1.has i b t)) (find_append v.actors w.actors i b f);
                distinct = mine.1.distinct;
                apart = apart_both v.actors w.actors (λ i a b f g. apart (sym (theirs.1.has i b g) ∙ mine.1.has i a f)) mine.1.apart theirs.1.apart;
                own = λ _. let o = mine.1.own active in (o.0, find_append_first v.actors w.actors v.number o.0 o.1);
                bare = λ q. absurd (let o = mine.1.own active in some-ne-none o.0 (sym (find_append_first v.actors w.actors v.number o.0 o.1) ∙ ap (λ (ps : List (ℕ × Actor)). value_of ps v.number) q));
                keep = λ i b j f m. ⊎_elim (λ (t : value_of v.actors i ≡ some b). mine.1.keep i b j t m)
                    (λ (t : value_of w.actors i ≡ some b). absurd (let o = theirs.1.keep i b j t m in some-ne-none o.0 (sym o.1 ∙ ap (λ (ps : List (ℕ × Cell)). value_of ps j) bare))) (find_append v.actors w.actors i b f);
              },
            ))
            (λ (ne : j ≢ id). let old = r.each_seat j u (sym (set_else s.views id j both ne) ∙ e) in (
              old.0,
              record {
                holds = old.1.holds;
                has = λ i b f. let h = old.1.has i b f in home_else i (λ q. not_other (sym h ∙ q)) ∙ h;
                distinct = old.1.distinct;
                apart = old.1.apart;
                own = old.1.own;
                bare = old.1.bare;
                keep = old.1.keep;
              },
            )));
        each_count = seats_stay (λ (j : ℕ) (u : V). u.actors ≢ [] → (u.cell_count ≡ length r.cells) × (u.actor_count ≡ length r.actors)) one other spent (λ n. absurd (n refl))
            (λ j u not_other e. seats_stay (λ (j : ℕ) (u : V). u.actors ≢ [] → (u.cell_count ≡ length r.cells) × (u.actor_count ≡ length r.actors)) s.views id both (λ _. r.each_count id v at active) (λ j u ne e. r.each_count j u e) j u e);
        each_actor = λ i b e. let old = r.each_actor i b e in dite (ℕ_discrete (r.home i) other)
            (λ (q : r.home i ≡ other). let is : old.0 ≡ w = some-injective old.0 w (sym old.1 ∙ (ap (get_elem? s.views) q ∙ at_other)) in let f : value_of w.actors i ≡ some b = ap (λ (u : V). value_of u.actors i) (sym is) ∙ old.2 in (
              both,
              ap (get_elem? two) (home_other i q) ∙ here,
              ⊎_elim
                  (λ (t : (x : Actor) × (value_of v.actors i ≡ some x)). absurd (apart (sym q ∙ mine.1.has i t.0 t.1)))
                  (λ (n : value_of v.actors i ≡ none). find_append_second v.actors w.actors i n ∙ f) (some_or_none (value_of v.actors i)),
            ))
            (λ (ne : r.home i ≢ other). let m = moved (λ (u : V). value_of u.actors i ≡ some b) s.views id (r.home i) v both old.0 at old.1 old.2 (λ q. find_append_first v.actors w.actors i b (ap (λ (u : V). value_of u.actors i) (sym q) ∙ old.2)) in
            (m.0, ap (get_elem? two) (home_else i ne) ∙ (set_else one other (r.home i) spent ne ∙ m.1), m.2));
        each_known = seats_stay (λ (j : ℕ) (u : V). HasAll count u → (k1 : ℕ) (c1 : Cell) → value_of u.known k1 ≡ some c1 → get_elem? r.cells k1 ≡ some c1) one other spent
            (λ all k1 c1 f. absurd (some-ne-none c1 (sym f)))
            (λ j u not_other e. seats_stay (λ (j : ℕ) (u : V). HasAll count u → (k1 : ℕ) (c1 : Cell) → value_of u.known k1 ≡ some c1 → get_elem? r.cells k1 ≡ some c1) s.views id both (λ all k1 c1 f. absurd (some-ne-none c1 (sym f))) (λ j u ne e. r.each_known j u e) j u e);
        whole = dite (ℕ_discrete r.whole.0 other)
            (λ (q : r.whole.0 ≡ other). let is : r.whole.1 ≡ w = some-injective r.whole.1 w (sym r.whole.2 ∙ (ap (get_elem? s.views) q ∙ at_other)) in (
              id,
              both,
              here,
              (λ f. let o = mine.1.own active in some-ne-none o.0 (sym (find_append_first v.actors w.actors v.number o.0 o.1) ∙ ap (λ (ps : List (ℕ × Actor)). value_of ps v.number) f)),
              λ d e. (longer_is (log d) v.seen w.seen (mine.0.seen d e) (theirs.0.seen d e)).2 (r.whole.4 d e ∙ ap (λ (u : V). u.seen) is),
            ))
            (λ (ne : r.whole.0 ≢ other). let m = moved (λ (u : V). (u.actors ≢ []) × ((d : Cell) → get_elem? r.cells log_at ≡ some d → log d ≡ u.seen)) s.views id r.whole.0 v both r.whole.1 at r.whole.2 (r.whole.3, r.whole.4)
            (λ q. (
              (λ f. let o = mine.1.own active in some-ne-none o.0 (sym (find_append_first v.actors w.actors v.number o.0 o.1) ∙ ap (λ (ps : List (ℕ × Actor)). value_of ps v.number) f)),
              λ d e. (longer_is (log d) v.seen w.seen (mine.0.seen d e) (theirs.0.seen d e)).1 (r.whole.4 d e ∙ ap (λ (u : V). u.seen) q),
            ))
            in (r.whole.0, m.0, set_else one other r.whole.0 spent ne ∙ m.1, m.2.0, m.2.1));
      }
