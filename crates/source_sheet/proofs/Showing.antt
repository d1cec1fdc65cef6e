-- The map that is taken to the plane is the plane's.
use Rattle.std.proofs.Common.{◌≡◌, ℕ, ◌+◌, ◌-◌, ◌*◌, ◌/◌, ◌%◌, ◌<◌, ◌≤◌, zero, suc, Bool, true, false, cond, ◌&&◌, List, [], ◌∷◌, length, refl, sym, ◌∙◌, ap, subst, arith, ◌⊎◌, inl, inr}
use Rattle.std.specs.Prelude.{IsTrue, ℤ, Some, slice_get, slice_index, nat_le, nat_lt, unwrap_or}
use Rattle.std.specs.List.{position_from, flat_map}
use Rattle.std.proofs.lemmas.Bool.{and_from, and_parts, le-leb, lt-ltb, leb-true, ltb-true, false_from_ne_true, true≢false}
use Rattle.std.proofs.lemmas.Nat.{div-add-mod', div-mul-add, mod-mul-add, mod_below, div_below, mul-add-lt}
use Rattle.std.proofs.lemmas.Option.{slice_get_within, same_Some, none-some}
use Rattle.std.proofs.lemmas.List.{length-map}
use Rattle.std.proofs.lemmas.List.FromFn.{fill_by_all, get_or-map-range_with_len}
use Rattle.comp_tree.specs.declared.shape.Connect.{Connect}
use Rattle.comp_tree.specs.declared.shape.Shape.{Shape}
use Rattle.comp_tree.specs.Raster.{Raster, pixels}
use Rattle.comp_tree.specs.ComponentTree.{ComponentTree}
use Rattle.comp_tree.specs.Components.{is_in_node, tree_of}
use Rattle.comp_tree.specs.Windows.{in_whole, is_in_box}
use Rattle.comp_tree.proofs.Exported.{IsAt, in_whole-at, in_whole-below, some_columns}
use Rattle.node_sums.specs.Sums.{sums_of}
use Rattle.source_pick.specs.declared.choice.Choice.{Choice}
use Rattle.source_pick.specs.Catalogue.{catalogue, cells_of}
use Rattle.node_sums.specs.DisjointNodes.{listed_number_at, AreDisjointNodes}
use Rattle.source_pick.specs.Segmentation.{segmentation_of, segmentation}
use Rattle.source_pick.proofs.Exported.{few_marked, few_rows}
use Rattle.source_pick.specs.Sheets.{Part, taken_back, window_size, put_on, from_box, has_on_sheet, sheet_number}
use Rattle.source_sheet.specs.declared.sheet.Place.{Place}
use Rattle.source_sheet.specs.declared.sheet.Sheet.{Sheet}
use Rattle.source_sheet.specs.declared.back.Taken.{Taken}
use Rattle.source_sheet.specs.Laid.{windows_of, part_of, IsLaidOut}
use Rattle.source_sheet.specs.Checks.{LiesInBoth, LieInBoth, IsInWindow}
use Rattle.source_sheet.specs.Backs.{SheetLaws, IsNear, IsNodeAt, AreOwners, found_as, found_of, nodes_in, AreListed, IsFromPlace, AreTakenTo, ShowsNodes, parts_of}
use Rattle.source_sheet.proofs.Sheeted.{is_sheet_of, placed, held_lies, held_all, IsPlacedSource, one_source}
use Rattle.source_sheet.proofs.Taking.{get_mapped, got_mapped}

-- ---- places

near_from : (whole onto : Shape) (c : Place) → LiesInBoth whole onto c → IsNear c
near_from whole onto c p =
    let rows : c.top + c.shape.height ≤ whole.height = p.from.rows in
    let columns : c.left + c.shape.width ≤ whole.width = p.from.columns in
    let rows_there : c.to_top + c.shape.height ≤ onto.height = p.to.rows in
    let columns_there : c.to_left + c.shape.width ≤ onto.width = p.to.columns in
    let high : whole.height ≤ 65535 = whole.within_limits.few_rows in
    let wide : whole.width ≤ 65535 = whole.within_limits.few_columns in
    let high_there : onto.height ≤ 65535 = onto.within_limits.few_rows in
    let wide_there : onto.width ≤ 65535 = onto.within_limits.few_columns in
    record {
      left = omega (arith, columns, wide);
      top = omega (arith, rows, high);
      to_left = omega (arith, columns_there, wide_there);
      to_top = omega (arith, rows_there, high_there);
    }

-- ---- the place of the first that passes

-- none passes, or one does, and the number is its place
record IsNumbered {X : Type 0} (test : X → Bool) (k : ℕ) (xs : List X) (number : ℕ) : Type 0 where
  pub place : ℕ
  pub it : X
  pub got : slice_get xs place ≡ Some it
  pub passes : test it ≡ true
  pub number_is : number ≡ k + place

numbered : {X : Type 0} (test : X → Bool) (k : ℕ) (xs : List X)
    → ((unwrap_or (position_from test k xs) 0 ≡ 0) × ((j : ℕ) (x : X) → slice_get xs j ≡ Some x → test x ≡ false))
    ⊎ IsNumbered test k xs (unwrap_or (position_from test k xs) 0)
numbered test k [] = inl (refl, λ j x e. absurd (none-some x e))
numbered {X} test k (y ∷ xs) = go (test y) refl (numbered test (k + 1) xs)
  where
    go : (b : Bool) → test y ≡ b
        → ((unwrap_or (position_from test (k + 1) xs) 0 ≡ 0) × ((j : ℕ) (x : X) → slice_get xs j ≡ Some x → test x ≡ false))
        ⊎ IsNumbered test (k + 1) xs (unwrap_or (position_from test (k + 1) xs) 0)
        → ((unwrap_or (cond b (Some k) (position_from test (k + 1) xs)) 0 ≡ 0) × ((j : ℕ) (x : X) → slice_get (y ∷ xs) j ≡ Some x → test x ≡ false))
        ⊎ IsNumbered test k (y ∷ xs) (unwrap_or (cond b (Some k) (position_from test (k + 1) xs)) 0)
    go true e rest = inr (record { place = 0; it = y; got = refl; passes = e; number_is = omega arith })
    go false e (inl n) = inl (n.0, none)
      where
        none : (j : ℕ) (x : X) → slice_get (y ∷ xs) j ≡ Some x → test x ≡ false
        none zero x g = ap test (sym (same_Some y x g)) ∙ e
        none (suc j) x g = n.1 j x g
    go false e (inr n) =
        let f : unwrap_or (position_from test (k + 1) xs) 0 ≡ k + 1 + n.place = n.number_is in
        inr (record { place = suc n.place; it = n.it; got = n.got; passes = n.passes; number_is = f ∙ omega arith })

first_found : {X : Type 0} (test : X → Bool) (k : ℕ) (xs : List X) (i : ℕ) (x : X) → slice_get xs i ≡ Some x → test x ≡ true
    → ((j : ℕ) (y : X) → j < i → slice_get xs j ≡ Some y → test y ≡ false) → unwrap_or (position_from test k xs) 0 ≡ k + i
first_found test k [] i x g h before = absurd (none-some x g)
first_found test k (y ∷ xs) zero x g h before = let on : test y ≡ true = ap test (same_Some y x g) ∙ h in rw on (omega arith)
first_found test k (y ∷ xs) (suc i) x g h before =
    let off : test y ≡ false = before 0 y (omega arith) refl in
    let rest : unwrap_or (position_from test (k + 1) xs) 0 ≡ k + 1 + i = first_found test (k + 1) xs i x g h (λ j z l f. before (suc j) z (omega (arith, l)) f) in
    rw off (rest ∙ omega arith)

none_found : {X : Type 0} (test : X → Bool) (k : ℕ) (xs : List X) → ((j : ℕ) (y : X) → slice_get xs j ≡ Some y → test y ≡ false)
    → unwrap_or (position_from test k xs) 0 ≡ 0
none_found test k [] h = refl
none_found test k (x ∷ xs) h = let off : test x ≡ false = h 0 x refl in rw off (none_found test (k + 1) xs (λ j y f. h (suc j) y f))

-- ---- what a part has at a pixel of the plane

module _ (r s : Raster) (connect : Connect) (h : ℤ) (c : Place) (p : LiesInBoth r.shape s.shape c) where
  stands : (q : ℕ) → IsAt r.shape.width c.shape.width c.left c.top (in_whole r.shape.width (windows_of c).from q) q
  stands q = in_whole-at r.shape (windows_of c).from q p.from

  -- the pixel of the sheet for one of the plane
  put_on_is : (x q : ℕ) → in_whole r.shape.width (windows_of c).from q ≡ x
      → put_on r.shape.width s.shape.width (part_of s h c) x ≡ in_whole s.shape.width (windows_of c).to q
  unfolding put_on in_whole
  put_on_is x q e =
      let at : IsAt r.shape.width c.shape.width c.left c.top x q = subst (λ (y : ℕ). IsAt r.shape.width c.shape.width c.left c.top y q) e (stands q) in
      let a : x / r.shape.width ≡ q / c.shape.width + c.top = at.row in
      let b : x % r.shape.width ≡ q % c.shape.width + c.left = at.column in
      let row : x / r.shape.width + c.to_top - c.top ≡ q / c.shape.width + c.to_top = omega (arith, a) in
      let column : x % r.shape.width + c.to_left - c.left ≡ q % c.shape.width + c.to_left = omega (arith, b) in
      ap (λ (y : ℕ). y * s.shape.width + (x % r.shape.width + c.to_left - c.left)) row
      ∙ ap (λ (y : ℕ). (q / c.shape.width + c.to_top) * s.shape.width + y) column

  in_box : (x q : ℕ) → q < window_size (windows_of c).from → in_whole r.shape.width (windows_of c).from q ≡ x
      → IsTrue (is_in_box r.shape.width (from_box (part_of s h c)) x)
  unfolding is_in_box
  in_box x q l e =
      let at : IsAt r.shape.width c.shape.width c.left c.top x q = subst (λ (y : ℕ). IsAt r.shape.width c.shape.width c.left c.top y q) e (stands q) in
      let a : x / r.shape.width ≡ q / c.shape.width + c.top = at.row in
      let b : x % r.shape.width ≡ q % c.shape.width + c.left = at.column in
      let u : q % c.shape.width < c.shape.width = mod_below q c.shape.width (some_columns c.shape) in
      let v : q / c.shape.width < c.shape.height = div_below q c.shape.width c.shape.height (some_columns c.shape) (omega (arith, l)) in
      and_from _ _
      (and_from _ _ (le-leb c.left (x % r.shape.width) (omega (arith, b))) (lt-ltb (x % r.shape.width) (c.left + c.shape.width) (omega (arith, b, u))))
      (and_from _ _ (le-leb c.top (x / r.shape.width) (omega (arith, a))) (lt-ltb (x / r.shape.width) (c.top + c.shape.height) (omega (arith, a, v))))

  from_in_box : (x : ℕ) → IsTrue (is_in_box r.shape.width (from_box (part_of s h c)) x) → IsInWindow r.shape.width (windows_of c).from x
  unfolding is_in_box in_whole
  from_in_box x k =
      let a : IsTrue (nat_le c.left (x % r.shape.width) && nat_lt (x % r.shape.width) (c.left + c.shape.width))
      × IsTrue (nat_le c.top (x / r.shape.width) && nat_lt (x / r.shape.width) (c.top + c.shape.height)) = and_parts _ _ k in
      let b : IsTrue (nat_le c.left (x % r.shape.width)) × IsTrue (nat_lt (x % r.shape.width) (c.left + c.shape.width)) = and_parts _ _ a.0 in
      let d : IsTrue (nat_le c.top (x / r.shape.width)) × IsTrue (nat_lt (x / r.shape.width) (c.top + c.shape.height)) = and_parts _ _ a.1 in
      let l : c.left ≤ x % r.shape.width = leb-true c.left (x % r.shape.width) b.0 in
      let m : x % r.shape.width < c.left + c.shape.width = ltb-true (x % r.shape.width) (c.left + c.shape.width) b.1 in
      let n : c.top ≤ x / r.shape.width = leb-true c.top (x / r.shape.width) d.0 in
      let o : x / r.shape.width < c.top + c.shape.height = ltb-true (x / r.shape.width) (c.top + c.shape.height) d.1 in
      let column_few : x % r.shape.width - c.left < c.shape.width = omega (arith, l, m) in
      let row_few : x / r.shape.width - c.top < c.shape.height = omega (arith, n, o) in
      let e : ((x / r.shape.width - c.top) * c.shape.width + (x % r.shape.width - c.left)) / c.shape.width ≡ x / r.shape.width - c.top =
      div-mul-add (x / r.shape.width - c.top) c.shape.width (x % r.shape.width - c.left) column_few in
      let f : ((x / r.shape.width - c.top) * c.shape.width + (x % r.shape.width - c.left)) % c.shape.width ≡ x % r.shape.width - c.left =
      mod-mul-add (x / r.shape.width - c.top) c.shape.width (x % r.shape.width - c.left) column_few in
      let row : ((x / r.shape.width - c.top) * c.shape.width + (x % r.shape.width - c.left)) / c.shape.width + c.top ≡ x / r.shape.width = omega (arith, e, n) in
      let column : ((x / r.shape.width - c.top) * c.shape.width + (x % r.shape.width - c.left)) % c.shape.width + c.left ≡ x % r.shape.width = omega (arith, f, l) in
      record {
        it = (x / r.shape.width - c.top) * c.shape.width + (x % r.shape.width - c.left);
        below = mul-add-lt (x / r.shape.width - c.top) c.shape.width (x % r.shape.width - c.left) c.shape.height row_few column_few;
        place =
            ap (λ (z : ℕ). z * r.shape.width + (((x / r.shape.width - c.top) * c.shape.width + (x % r.shape.width - c.left)) % c.shape.width + c.left)) row
            ∙ ap (λ (z : ℕ). x / r.shape.width * r.shape.width + z) column
            ∙ div-add-mod' x r.shape.width;
      }

  pub has_from : (n x q : ℕ) → q < window_size (windows_of c).from → in_whole r.shape.width (windows_of c).from q ≡ x
      → is_in_node s connect n (in_whole s.shape.width (windows_of c).to q) ≡ true → has_on_sheet r s connect x (part_of s h c, n) ≡ true
  unfolding has_on_sheet
  has_from n x q l e k =
      and_from (is_in_box r.shape.width (from_box (part_of s h c)) x) (is_in_node s connect n (put_on r.shape.width s.shape.width (part_of s h c) x))
      (in_box x q l e) (ap (is_in_node s connect n) (put_on_is x q e) ∙ k)

  pub has_parts : (n x : ℕ) → has_on_sheet r s connect x (part_of s h c, n) ≡ true
      → (w : IsInWindow r.shape.width (windows_of c).from x) × (is_in_node s connect n (in_whole s.shape.width (windows_of c).to w.it) ≡ true)
  unfolding has_on_sheet
  has_parts n x k =
      let a = and_parts (is_in_box r.shape.width (from_box (part_of s h c)) x) (is_in_node s connect n (put_on r.shape.width s.shape.width (part_of s h c) x)) k in
      let w : IsInWindow r.shape.width (windows_of c).from x = from_in_box x a.0 in
      (w, ap (is_in_node s connect n) (sym (put_on_is x w.it w.place)) ∙ a.1)

-- ---- the map

module _ (r : Raster) (connect : Connect) (choice : Choice) (sheet : Sheet) (l : IsLaidOut r connect choice sheet) (laws : SheetLaws)
    (nodes : List ℕ) (cells : List ℤ) (listed : AreListed r connect choice sheet nodes cells) (tree : ComponentTree)
    (tree_is : tree ≡ tree_of sheet.plane connect) (shown : List ℕ) (shows : ShowsNodes tree sheet nodes shown)
    (size : length shown ≡ sheet.whole.width * sheet.whole.height) where
  abbrev s : Raster
  s = sheet.plane

  abbrev h : ℤ
  h = choice.threshold

  abbrev found : List (Part × ℕ)
  found = found_of s h listed.taken

  abbrev numbers : List ℕ
  numbers = shows.numbers

  taken_to : AreTakenTo r.shape.width s.shape.width sheet.places.items numbers (length sheet.places.items) shown
  taken_to = subst (λ (x : Shape). AreTakenTo x.width s.shape.width sheet.places.items numbers (length sheet.places.items) shown) l.whole shows.taken

  -- an entry is a source that a place holds
  source_at : (i : ℕ) (e : Taken) → slice_get listed.taken i ≡ Some e → IsPlacedSource r connect choice sheet l laws e.place e.node
  source_at i e g =
      let a = listed.back.each i (part_of s h e.place) e.node (get_mapped (found_as s h) listed.taken i e g) in
      let b : (j : ℕ) × (slice_get sheet.places.items j ≡ Some e.place) = listed.placed i e g in
      record { place = b.0; got = b.1; node = a.1; source = a.2; held = a.3 }

  -- what number a pixel of the sheet has
  number_there : (x : ℕ) → x < length s.values → slice_index numbers x ≡ unwrap_or (position_from (λ n. is_in_node s connect n x) 1 nodes) 0
  unfolding segmentation_of pixels listed_number_at
  number_there x few =
      ap (λ (xs : List ℕ). slice_index xs x) (shows.exact s connect tree_is)
      ∙ get_or-map-range_with_len (listed_number_at s connect nodes) 0 (length s.values) x x 0 few (omega arith)

  within : (i q : ℕ) (c : Place) → slice_get sheet.places.items i ≡ Some c → q < window_size (windows_of c).to
      → in_whole s.shape.width (windows_of c).to q < length s.values
  within i q c got few =
      let a : in_whole s.shape.width (windows_of c).to q < s.shape.width * s.shape.height =
      in_whole-below s.shape (windows_of c).to q (placed r connect choice sheet l laws i c got).to few in
      let e : length s.values ≡ s.shape.width * s.shape.height = l.one_each_there in
      omega (arith, a, e)

  -- no entry has a pixel where the map has none
  none_there : (p : ℕ) → slice_index shown p ≡ 0 → sheet_number r s connect found p ≡ 0
  unfolding sheet_number
  none_there p z = none_found (has_on_sheet r s connect p) 1 found (λ j y g. false_from_ne_true (has_on_sheet r s connect p y) (λ k. never j y g k))
    where
      never : (j : ℕ) (y : Part × ℕ) → slice_get found j ≡ Some y → has_on_sheet r s connect p y ≡ true → ⊥
      never j y g k = go (numbered (λ n. is_in_node s connect n x) 1 nodes)
        where
          e : (d : Taken) × (slice_get listed.taken j ≡ Some d) × (found_as s h d ≡ y)
          e = got_mapped (found_as s h) listed.taken j y g

          d : Taken
          d = e.0

          f : IsPlacedSource r connect choice sheet l laws d.place d.node
          f = source_at j d e.1

          w : (w : IsInWindow r.shape.width (windows_of d.place).from p) × (is_in_node s connect d.node (in_whole s.shape.width (windows_of d.place).to w.it) ≡ true)
          w = has_parts r s connect h d.place (placed r connect choice sheet l laws f.place d.place f.got) d.node p
              (subst (λ (u : Part × ℕ). has_on_sheet r s connect p u ≡ true) (sym e.2) k)

          x : ℕ
          x = in_whole s.shape.width (windows_of d.place).to w.0.it

          zero_here : slice_index numbers x ≡ 0
          zero_here =
              taken_to.complete f.place w.0.it d.place (slice_get_within sheet.places.items f.place d.place f.got) f.got w.0.below
              (ap (λ (u : ℕ). slice_index shown u) w.0.place ∙ z)

          member : slice_get nodes j ≡ Some d.node
          member = ap (λ (ns : List ℕ). slice_get ns j) listed.nodes_are ∙ get_mapped (λ (u : Taken). u.node) listed.taken j d e.1

          go : ((unwrap_or (position_from (λ n. is_in_node s connect n x) 1 nodes) 0 ≡ 0)
              × ((i n : ℕ) → slice_get nodes i ≡ Some n → is_in_node s connect n x ≡ false))
              ⊎ IsNumbered (λ n. is_in_node s connect n x) 1 nodes (unwrap_or (position_from (λ n. is_in_node s connect n x) 1 nodes) 0)
              → ⊥
          go (inl n) = true≢false (sym w.1 ∙ n.1 j d.node member)
          go (inr n) =
              let a : slice_index numbers x ≡ unwrap_or (position_from (λ n. is_in_node s connect n x) 1 nodes) 0 =
              number_there x (within f.place w.0.it d.place f.got w.0.below) in
              let b : unwrap_or (position_from (λ n. is_in_node s connect n x) 1 nodes) 0 ≡ 1 + n.place = n.number_is in
              let c : slice_index numbers x ≡ 1 + n.place = a ∙ b in
              absurd (omega (arith, zero_here, c))

  -- an entry that has a pixel is the only one
  only_one : (p i j : ℕ) (d e : Taken) → i < j → slice_get listed.taken i ≡ Some d → slice_get listed.taken j ≡ Some e
      → has_on_sheet r s connect p (found_as s h d) ≡ true → has_on_sheet r s connect p (found_as s h e) ≡ true → ⊥
  only_one p i j d e less gd ge kd ke =
      let f : IsPlacedSource r connect choice sheet l laws d.place d.node = source_at i d gd in
      let g : IsPlacedSource r connect choice sheet l laws e.place e.node = source_at j e ge in
      let v = has_parts r s connect h d.place (placed r connect choice sheet l laws f.place d.place f.got) d.node p kd in
      let w = has_parts r s connect h e.place (placed r connect choice sheet l laws g.place e.place g.got) e.node p ke in
      let same = one_source r connect choice sheet l laws d.place e.place d.node e.node f g v.0.it w.0.it v.0.below w.0.below
      (v.0.place ∙ sym w.0.place) v.1 w.1 in
      let rise : taken_back r.shape.width s.shape.width (part_of s h d.place) (sums_of s connect d.node).first
      < taken_back r.shape.width s.shape.width (part_of s h e.place) (sums_of s connect e.node).first =
      listed.back.rise i j (part_of s h d.place) (part_of s h e.place) d.node e.node less (get_mapped (found_as s h) listed.taken i d gd)
      (get_mapped (found_as s h) listed.taken j e ge) in
      let equal : taken_back r.shape.width s.shape.width (part_of s h d.place) (sums_of s connect d.node).first
      ≡ taken_back r.shape.width s.shape.width (part_of s h e.place) (sums_of s connect e.node).first =
      λ i. taken_back r.shape.width s.shape.width (part_of s h (same.1 i)) (sums_of s connect (same.2 i)).first in
      absurd (omega (arith, rise, equal))

  number_shown : (p : ℕ) → slice_index shown p ≡ sheet_number r s connect found p
  unfolding sheet_number
  number_shown p = go (taken_to.sound p)
    where
      go : (slice_index shown p ≡ 0) ⊎ IsFromPlace r.shape.width s.shape.width sheet.places.items numbers shown p
          → slice_index shown p ≡ unwrap_or (position_from (has_on_sheet r s connect p) 1 found) 0
      go (inl z) = z ∙ sym (none_there p z)
      go (inr f) = by_number (numbered (λ n. is_in_node s connect n x) 1 nodes)
        where
          x : ℕ
          x = in_whole s.shape.width (windows_of f.place).to f.pixel

          number_is : slice_index shown p ≡ unwrap_or (position_from (λ n. is_in_node s connect n x) 1 nodes) 0
          number_is = f.number ∙ number_there x (within f.it f.pixel f.place f.at f.below)

          by_number : ((unwrap_or (position_from (λ n. is_in_node s connect n x) 1 nodes) 0 ≡ 0)
              × ((i n : ℕ) → slice_get nodes i ≡ Some n → is_in_node s connect n x ≡ false))
              ⊎ IsNumbered (λ n. is_in_node s connect n x) 1 nodes (unwrap_or (position_from (λ n. is_in_node s connect n x) 1 nodes) 0)
              → slice_index shown p ≡ unwrap_or (position_from (has_on_sheet r s connect p) 1 found) 0
          by_number (inl n) = (number_is ∙ n.0) ∙ sym (none_there p (number_is ∙ n.0))
          by_number (inr n) =
              number_is ∙ n.number_is
              ∙ sym (first_found (has_on_sheet r s connect p) 1 found n.place (found_as s h d) (get_mapped (found_as s h) listed.taken n.place d e.1) here before)
            where
              e : (d : Taken) × (slice_get listed.taken n.place ≡ Some d) × (d.node ≡ n.it)
              e = got_mapped (λ (u : Taken). u.node) listed.taken n.place n.it (ap (λ (ns : List ℕ). slice_get ns n.place) (sym listed.nodes_are) ∙ n.got)

              d : Taken
              d = e.0

              g : IsPlacedSource r connect choice sheet l laws d.place d.node
              g = source_at n.place d e.1

              inside : is_in_node s connect d.node x ≡ true
              inside = ap (λ (u : ℕ). is_in_node s connect u x) e.2 ∙ n.passes

              lies : IsInWindow s.shape.width (windows_of d.place).to x
              lies = held_lies r connect choice sheet l laws d.place x
                  (held_all r connect choice sheet l laws g.place d.place g.got d.node x g.node g.source g.held inside)

              places : f.it ≡ g.place
              places =
                  l.apart_there f.it g.place x f.place d.place f.at g.got (record { it = f.pixel; below = f.below; place = refl })
                  (record { it = lies.it; below = lies.below; place = lies.place })

              same_place : f.place ≡ d.place
              same_place = same_Some f.place d.place (sym f.at ∙ ap (slice_get sheet.places.items) places ∙ g.got)

              here : has_on_sheet r s connect p (found_as s h d) ≡ true
              here =
                  subst (λ (c : Place). has_on_sheet r s connect p (part_of s h c, d.node) ≡ true) same_place
                  (has_from r s connect h f.place (placed r connect choice sheet l laws f.it f.place f.at) d.node p f.pixel f.below f.there inside)

              before : (j : ℕ) (y : Part × ℕ) → j < n.place → slice_get found j ≡ Some y → has_on_sheet r s connect p y ≡ false
              before j y less gy =
                  let u : (d : Taken) × (slice_get listed.taken j ≡ Some d) × (found_as s h d ≡ y) = got_mapped (found_as s h) listed.taken j y gy in
                  false_from_ne_true (has_on_sheet r s connect p y)
                  (λ k. only_one p j n.place u.0 d less u.1 e.1 (subst (λ (v : Part × ℕ). has_on_sheet r s connect p v ≡ true) (sym u.2) k) here)

  pub map_is : shown ≡ segmentation r connect choice
  unfolding pixels
  map_is =
      fill_by_all (sheet_number r s connect found) shown (length r.values) 0
      (size ∙ ap (λ (x : Shape). x.width * x.height) l.whole ∙ sym l.one_each) (λ p few. number_shown p)
      ∙ sym (laws.map r s connect choice (parts_of s h sheet.places.items) found l.one_each l.one_each_there
      (is_sheet_of r connect choice sheet l laws) listed.back)

-- ---- as the code makes it

pub shows_from : (tree : ComponentTree) (sheet : Sheet) (nodes : List ℕ) (onto : Shape) (places : List Place) (made read shown shown' : List ℕ)
    → onto ≡ sheet.plane.shape → places ≡ sheet.places.items → read ≡ made → shown ≡ shown'
    → ((s : Raster) (connect : Connect) → tree ≡ tree_of s connect → made ≡ segmentation_of s connect nodes)
    → AreTakenTo sheet.whole.width onto.width places read (length places) shown' → ShowsNodes tree sheet nodes shown
shows_from tree sheet nodes onto places made read shown shown' e f g i exact are = record {
  numbers = read;
  exact = λ s connect same. g ∙ exact s connect same;
  taken = subst (λ (x : List ℕ). AreTakenTo sheet.whole.width sheet.plane.shape.width sheet.places.items read (length sheet.places.items) x) (sym i)
      (subst (λ (x : Shape). AreTakenTo sheet.whole.width x.width sheet.places.items read (length sheet.places.items) shown') e
      (subst (λ (x : List Place). AreTakenTo sheet.whole.width onto.width x read (length x) shown') f are));
}

-- the cells are the plane's
pub cells_are : (r : Raster) (connect : Connect) (choice : Choice) (sheet : Sheet) → IsLaidOut r connect choice sheet → SheetLaws → (nodes : List ℕ)
    (cells : List ℤ) → AreListed r connect choice sheet nodes cells → cells ≡ flat_map cells_of (catalogue r connect choice)
cells_are r connect choice sheet l laws nodes cells k =
    k.cells_are
    ∙ ap (flat_map cells_of) (sym (laws.catalogue r sheet.plane connect choice (parts_of sheet.plane choice.threshold sheet.places.items)
    (found_of sheet.plane choice.threshold k.taken) l.one_each l.one_each_there (is_sheet_of r connect choice sheet l laws) k.back))

-- the places lie in their images
pub all_placed : (r : Raster) (connect : Connect) (choice : Choice) (sheet : Sheet) → IsLaidOut r connect choice sheet → SheetLaws
    → LieInBoth sheet.whole sheet.plane.shape sheet.places.items
all_placed r connect choice sheet l laws =
    subst (λ (x : Shape). LieInBoth x sheet.plane.shape sheet.places.items) (sym l.whole) (placed r connect choice sheet l laws)

-- a node of the list, as its row is made
pub node_at : (r : Raster) (connect : Connect) (choice : Choice) (sheet : Sheet) → IsLaidOut r connect choice sheet → SheetLaws → (tree : ComponentTree)
    (taken : List Taken) → AreDisjointNodes tree (nodes_in taken)
    → ((i : ℕ) (e : Taken) → slice_get taken i ≡ Some e → (j : ℕ) × (slice_get sheet.places.items j ≡ Some e.place))
    → (i : ℕ) (e : Taken) → slice_get taken i ≡ Some e → IsNodeAt tree e
node_at r connect choice sheet l laws tree taken d at i e g =
    let k : (j : ℕ) × (slice_get sheet.places.items j ≡ Some e.place) = at i e g in
    let p : LiesInBoth r.shape sheet.plane.shape e.place = placed r connect choice sheet l laws k.0 e.place k.1 in
    record { node = d.nodes i e.node (get_mapped (λ (x : Taken). x.node) taken i e g); near = near_from r.shape sheet.plane.shape e.place p }

pub few_taken : (tree : ComponentTree) (taken : List Taken) → AreDisjointNodes tree (nodes_in taken) → length taken ≤ 2147483647
few_taken tree taken d =
    let a : length (nodes_in taken) ≤ length tree.rows = few_marked tree (nodes_in taken) d in
    let b : length tree.rows ≤ 2147483647 = few_rows tree (nodes_in taken) d in
    let e : length (nodes_in taken) ≡ length taken = length-map taken (λ (x : Taken). x.node) in
    omega (arith, a, b, e)

-- as places and owners are read
pub placed_read : (whole onto shape : Shape) (places places' : List Place) → onto ≡ shape → places' ≡ places → LieInBoth whole shape places
    → LieInBoth whole onto places'
placed_read whole onto shape places places' e f k =
    subst (λ (x : Shape). LieInBoth whole x places') (sym e) (subst (λ (x : List Place). LieInBoth whole shape x) (sym f) k)

pub owners_read : (width : ℕ) (places places' : List Place) (owners owners' : List ℕ) → places ≡ places' → owners' ≡ owners
    → AreOwners width places (length places) owners → AreOwners width places' (length places') owners'
owners_read width places places' owners owners' e f k =
    subst (λ (x : List ℕ). AreOwners width places' (length places') x) (sym f) (subst (λ (x : List Place). AreOwners width x (length x) owners) e k)
