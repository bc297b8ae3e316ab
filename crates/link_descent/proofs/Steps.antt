-- The steps, put together from what the code tells of them.
use Rattle.std.proofs.{Common.{ℕ, ◌≡◌, ◌+◌, ◌<◌, ◌≤◌, false, List, [], ◌∷◌, ◌++◌, length, take, drop, get_or, Some, None, refl, sym, ap, subst, ◌∙◌, arith, inl, inr}, lemmas.Bool.Decides.nat_tests, lemmas.List.{length-append, length-take, length-drop}, lemmas.List.Elements.{All-nil, All-cons, All-push, All-append, All-take, All-drop}, lemmas.Option.slice_get_read}
use Rattle.std.specs.Prelude.{◌==◌, slice_get, All}
use Rattle.dim_hierarchy.specs.{Dimension.Dimension, Rows.IsRowOf, declared.row.Row.Row}
use Rattle.describing_set.specs.Sets.{IsDescSetOf}
use Rattle.dc_node.specs.{Block.{is_full, rows_in, entries_in, with_rows, IsBodyOf, with_entries, replaced}, Entry.IsWithRow, declared.block.Block.Block, declared.block.Body.Body, declared.block.Body.TheVariants.{Rows, Entries}, declared.entry.Entry.Entry}
use Rattle.cell_stock.specs.Stock.{PurseValue}
use Rattle.shard_store.specs.{Gate.root_entry, declared.gate.Gate.Gate}
use Rattle.link_descent.proofs.Entries.{HasSet, All-entries, All-rows}
use Rattle.link_descent.specs.{Descend.{IsShared, Halves, Cuts, StepsDown, Enters}, Room.{HalvesHead, CutsHead, HasRoom, IsRaised}, declared.entered.Entered.Entered, declared.entered.Fresh.Fresh}

-- The parent's entries.

All-replaced : (h : List Dimension) (b : Body) (place : ℕ) (others : List Entry) → IsBodyOf h b → All (HasSet h) others → All (HasSet h) (replaced (entries_in b) place others)
All-replaced h b place others valid all =
    let entries = entries_in b in
    let old = All-entries h b valid in
    All-append (HasSet h) (take place entries ++ others) (drop (place + 1) entries)
    (All-append (HasSet h) (take place entries) others (All-take (HasSet h) place entries old) all)
    (All-drop (HasSet h) (place + 1) entries old)

pub valid_with_one : (h : List Dimension) (parent parent_now : Block) (place : ℕ) (e : Entry) → parent_now ≡ with_entries parent (replaced (entries_in parent.body) place (e ∷ [])) → IsBodyOf h parent.body → IsDescSetOf h e.set → IsBodyOf h parent_now.body
valid_with_one h parent parent_now place e is valid set =
    subst (λ b. IsBodyOf h b.body) (sym is) (All-replaced h parent.body place (e ∷ []) valid (All-cons (HasSet h) e [] set (All-nil (HasSet h))))

pub valid_with_two : (h : List Dimension) (parent parent_now : Block) (place : ℕ) (left right : Entry) → parent_now ≡ with_entries parent (replaced (entries_in parent.body) place (left ∷ right ∷ [])) → IsBodyOf h parent.body → IsDescSetOf h left.set → IsDescSetOf h right.set → IsBodyOf h parent_now.body
valid_with_two h parent parent_now place left right is valid set_left set_right =
    subst (λ b. IsBodyOf h b.body) (sym is)
    (All-replaced h parent.body place (left ∷ right ∷ []) valid (All-cons (HasSet h) left (right ∷ []) set_left (All-cons (HasSet h) right [] set_right (All-nil (HasSet h)))))

not_16 : (n : ℕ) → n ≤ 16 → (n == 16) ≡ false → n < 16
not_16 n most differs = grind (arith, nat_tests)

room_left : (b : Body) → is_full b ≡ false → length (entries_in b) ≤ 16 → length (entries_in b) < 16
room_left (Rows rows) room most = omega arith
room_left (Entries entries) room most = not_16 (length entries.items) most room

pub few_with_two : (parent parent_now : Block) (place : ℕ) (left right : Entry) → parent_now ≡ with_entries parent (replaced (entries_in parent.body) place (left ∷ right ∷ [])) → is_full parent.body ≡ false → length (entries_in parent.body) ≤ 16 → place < length (entries_in parent.body) → length (entries_in parent_now.body) ≤ 16
few_with_two parent parent_now place left right is room most within =
    let entries = entries_in parent.body in
    let e = ap (λ b. length (entries_in b.body)) is in
    let less = room_left parent.body room most in
    let m = length-append (take place entries ++ left ∷ right ∷ []) (drop (place + 1) entries) in
    let n = length-append (take place entries) (left ∷ right ∷ []) in
    let t = length-take place entries in
    let d = length-drop (place + 1) entries in
    omega (arith, e, less, m, n, t, d)

pub entry_here : (xs entries : List Entry) (n place : ℕ) (e copy : Entry) → xs ≡ entries → n ≡ place → n < length entries → e ≡ get_or xs n e → copy ≡ e → slice_get entries place ≡ Some copy
entry_here xs entries n place e copy list same within read copied =
    ap (slice_get entries) (sym same)
    ∙ slice_get_read entries (length entries) n e refl within (read ∙ ap (λ l. get_or l n e) list)
    ∙ ap Some (sym copied)

-- The steps down.

pub StepsDown-halves : (h : List Dimension) (row : Row) (place : ℕ) (tail : List Block) (parent parent_now head head_now : Block) (purse purse_now : PurseValue) (entered : Entered) (entry entry_now : Entry) (fresh : Fresh) (n : ℕ) → n ≡ place
    → slice_get (entries_in parent.body) place ≡ Some entry
    → parent_now ≡ with_entries parent (replaced (entries_in parent.body) n (entry_now ∷ []))
    → HalvesHead h tail entry head head_now purse purse_now fresh → IsWithRow h row entry entry_now
    → entered.fresh.items ≡ fresh ∷ [] → entered.at ≡ entry.child
    → StepsDown h row place tail parent parent_now head head_now purse purse_now entered
StepsDown-halves h row place tail parent parent_now head head_now purse purse_now entered entry entry_now fresh n same here is halves with_row one at = record {
  entry = entry;
  entry_at = here;
  step = inr (inl (
    entry_now,
    record { parent_is = is ∙ ap (λ k. with_entries parent (replaced (entries_in parent.body) k (entry_now ∷ []))) same },
    record {
      full = halves.full;
      why = halves.why;
      spare = halves.spare;
      purse_is = halves.purse_is;
      new = halves.new;
      halved = halves.halved;
      entry_is = with_row;
      fresh = one ∙ ap (λ f. f ∷ []) halves.fresh_is;
      at = at;
    },
  ));
}

pub StepsDown-cuts : (h : List Dimension) (row : Row) (place : ℕ) (tail : List Block) (parent parent_now head head_now : Block) (purse purse_now : PurseValue) (entered : Entered) (entry left right left_now right_now chosen : Entry) (fresh : Fresh) (n : ℕ) → n ≡ place
    → slice_get (entries_in parent.body) place ≡ Some entry
    → parent_now ≡ with_entries parent (replaced (entries_in parent.body) n (left_now ∷ right_now ∷ []))
    → CutsHead h tail entry left right head head_now purse purse_now fresh → IsShared h row left right left_now right_now chosen
    → entered.fresh.items ≡ fresh ∷ [] → entered.at ≡ chosen.child
    → StepsDown h row place tail parent parent_now head head_now purse purse_now entered
StepsDown-cuts h row place tail parent parent_now head head_now purse purse_now entered entry left right left_now right_now chosen fresh n same here is cuts shared one at = record {
  entry = entry;
  entry_at = here;
  step = inr (inr (record {
    spare = cuts.spare;
    new = cuts.new;
    left = left;
    right = right;
    left_now = left_now;
    right_now = right_now;
    chosen = chosen;
    cuts = cuts.cuts;
    shared = shared;
    parent_is = is ∙ ap (λ k. with_entries parent (replaced (entries_in parent.body) k (left_now ∷ right_now ∷ []))) same;
    fresh = one ∙ ap (λ f. f ∷ []) cuts.fresh_is;
    at = at;
  }));
}

-- The steps in at a gate.

pub Enters-halves : (h : List Dimension) (row : Row) (tail : List Block) (gate gate_now : Gate) (root root_now : Block) (purse purse_now : PurseValue) (entered : Entered) (entry entry_now : Entry) (fresh : Fresh)
    → entry ≡ root_entry gate → IsWithRow h row entry entry_now → gate_now ≡ record gate { agg = entry_now.agg; set = entry_now.set }
    → HalvesHead h tail entry root root_now purse purse_now fresh → entered.fresh.items ≡ fresh ∷ [] → entered.at ≡ entry.child
    → Enters h row tail gate gate_now root root_now purse purse_now entered
Enters-halves h row tail gate gate_now root root_now purse purse_now entered entry entry_now fresh is with_row gate_is halves one at =
    let all : Halves h row tail entry entry_now root root_now purse purse_now entered = record {
      full = halves.full;
      why = halves.why;
      spare = halves.spare;
      purse_is = halves.purse_is;
      new = halves.new;
      halved = halves.halved;
      entry_is = with_row;
      fresh = one ∙ ap (λ f. f ∷ []) halves.fresh_is;
      at = at;
    } in
    record { step = inr (inl (entry_now, record { gate_is = gate_is }, subst (λ e. Halves h row tail e entry_now root root_now purse purse_now entered) is all)) }

pub Enters-cuts : (h : List Dimension) (row : Row) (tail : List Block) (gate gate_now : Gate) (root root_now : Block) (purse between purse_now : PurseValue) (entered : Entered) (entry entry_now left right : Entry) (fresh : Fresh)
    → entry ≡ root_entry gate → IsWithRow h row entry entry_now
    → CutsHead h tail entry left right root root_now purse between fresh
    → IsRaised (record gate { agg = entry_now.agg; set = entry_now.set }) gate_now fresh left right between purse_now entered
    → Enters h row tail gate gate_now root root_now purse purse_now entered
Enters-cuts h row tail gate gate_now root root_now purse between purse_now entered entry entry_now left right fresh is with_row cuts raised = record {
  step = inr (inr (record {
    spare = cuts.spare;
    new = cuts.new;
    left = left;
    right = right;
    between = between;
    cuts = subst (λ e. Cuts h tail e left right root root_now purse between cuts.spare cuts.new) is cuts.cuts;
    top = raised.top;
    purse_is = raised.purse_is;
    fresh = raised.fresh ∙ ap (λ f. f ∷ record { cell = raised.top.cell; block = record { stamp = raised.top.stamp; right = None; body = Entries (record { items = left ∷ right ∷ [] }) } } ∷ []) cuts.fresh_is;
    entry_now = entry_now;
    entry_is = subst (λ e. IsWithRow h row e entry_now) is with_row;
    gate_is = raised.gate_is;
    at = raised.at;
  }));
}

-- the new root
top_room : (h : List Dimension) (stamp : ℕ) (left right : Entry) → IsDescSetOf h left.set → IsDescSetOf h right.set → HasRoom h (record { stamp = stamp; right = None; body = Entries (record { items = left ∷ right ∷ [] }) })
top_room h stamp left right set_left set_right = record {
  valid = All-cons (HasSet h) left (right ∷ []) set_left (All-cons (HasSet h) right [] set_right (All-nil (HasSet h)));
  room = refl;
}

pub fresh_with_top : (h : List Dimension) (gate gate_now : Gate) (fresh : Fresh) (left right : Entry) (purse purse_now : PurseValue) (entered : Entered)
    → IsRaised gate gate_now fresh left right purse purse_now entered → HasRoom h fresh.block → IsDescSetOf h left.set → IsDescSetOf h right.set
    → All (λ f. HasRoom h f.block) entered.fresh.items
fresh_with_top h gate gate_now fresh left right purse purse_now entered raised room set_left set_right =
    let P : Fresh → Type 0 = λ f. HasRoom h f.block in
    let top : Fresh = record { cell = raised.top.cell; block = record { stamp = raised.top.stamp; right = None; body = Entries (record { items = left ∷ right ∷ [] }) } } in
    subst (All P) (sym raised.fresh) (All-cons P fresh (top ∷ []) room (All-cons P top [] (top_room h raised.top.stamp left right set_left set_right) (All-nil P)))

-- A row more in a leaf.

pub valid_with_row : (h : List Dimension) (block block_now : Block) (row : Row) → block_now ≡ with_rows block (rows_in block.body ++ row ∷ []) → IsBodyOf h block.body → IsRowOf h row → IsBodyOf h block_now.body
valid_with_row h block block_now row is valid known =
    subst (λ b. IsBodyOf h b.body) (sym is) (All-push (IsRowOf h) (rows_in block.body) row (All-rows h block.body valid) known)
