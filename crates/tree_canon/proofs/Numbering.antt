-- How the pixels get their numbers: those of the rows first, then all others along the links.
use Rattle.std.proofs.Common.{◌≡◌, ◌≢◌, ℕ, suc, ◌+◌, ◌-◌, ◌<◌, ◌≤◌, Bool, true, false, cond, List, [], ◌∷◌, length, map, get_or, set, replicate}
use Rattle.std.proofs.Common.{refl, sym, ap, subst, ◌∙◌, inl, inr, arith, Some, slice_get, length-set, get_or-set_same, get_or-set_other}
use Rattle.std.specs.Prelude.{IsTrue, All, ℤ, Option, None, is_some, filter, slice_index}
use Rattle.std.proofs.lemmas.Bool.{true≢false, cases_eq, cases_lt}
use Rattle.std.proofs.lemmas.Bool.Decides.{leb_tells}
use Rattle.std.proofs.lemmas.List.{get_or_past, get_or_default, get_or-map, length-map, length-replicate, get_or-replicate}
use Rattle.std.proofs.lemmas.Option.{slice_get_within, same_Some, slice_get-get_or}
use Rattle.comp_tree.specs.Limits.{most_pixels}
use Rattle.comp_tree.specs.declared.tree.NodeRow.{NodeRow}
use Rattle.comp_tree.specs.Raster.{Raster, HasGap, value_at, level, pixels}
use Rattle.comp_tree.specs.Forest.{no_node, link_of, IsForest}
use Rattle.comp_tree.proofs.Exported.{value-level, before_level, below_from_defined, among_from_defined, IsAmong, among-filter, among_from_filter}
use Rattle.comp_tree.proofs.Exported.{length-in_order, length-pixels, ordered-same_place, among_at, among_in_order-from, IsImage, get_is, get-map}
use Rattle.comp_tree.proofs.Exported.{get_from_map, none_is_undefined}
use Rattle.tree_canon.specs.Canonical.{is_canonical, canonical_pixels, loose_row, node_number_at, IsNumbering}
use Rattle.tree_canon.specs.Numbers.{HaveOwnPixels, HasRowNumbers, LeadBack, HasLinkNumbers}
use Rattle.tree_canon.proofs.Finding.{IsPixelLink, pixel_link, link_high}
use Rattle.tree_canon.specs.Places.{ArePixelsFrom, IsRowAt, AreNumberedBy}
use Rattle.tree_canon.proofs.Parents.{blank}
use Rattle.tree_canon.proofs.Rising.{defined_at}
use Rattle.tree_canon.proofs.Sorting.{canonical-ordered, canonical-is, canonical-defined, canonical-found, canonical-pixels}
use Rattle.lemmas.proofs.Exported.{among_get}

-- ---- the pixels of the first k rows

pub record IsNumberedTo (rows : List NodeRow) (old new : List ℕ) (k : ℕ) : Type 0 where
  pub one_each : length new ≡ length old
  pub of_rows : (n : ℕ) (row : NodeRow) → n < k → slice_get rows n ≡ Some row → node_number_at new row.rep ≡ n
  pub others : (p : ℕ) → ((n : ℕ) (row : NodeRow) → n < k → slice_get rows n ≡ Some row → row.rep ≢ p) → node_number_at new p ≡ node_number_at old p

pub numbered_none : (rows : List NodeRow) (old : List ℕ) → IsNumberedTo rows old old 0
numbered_none rows old = record { one_each = refl; of_rows = λ n row lt at. absurd (omega arith); others = λ p apart. refl }

pub numbered_more : (rows : List NodeRow) (old new : List ℕ) (k : ℕ) (row : NodeRow) → HaveOwnPixels rows → slice_get rows k ≡ Some row → row.rep < length old
    → IsNumberedTo rows old new k → IsNumberedTo rows old (set new row.rep k) (k + 1)
numbered_more rows old new k row own at below h = record {
  one_each = length-set new row.rep k ∙ h.one_each;
  of_rows = λ n other lt got. elim (cases_eq n k) [
    | inl e ↦
        let same : other ≡ row = same_Some other row (sym got ∙ ap (slice_get rows) e ∙ at) in
        ap (λ (x : NodeRow). node_number_at (set new row.rep k) x.rep) same ∙ get_or-set_same new row.rep k no_node (omega (arith, below, h.one_each)) ∙ sym e
    | inr ne ↦
        get_or-set_other new row.rep other.rep k no_node (λ (e : other.rep ≡ row.rep). ne (own n k other row got at e))
        ∙ h.of_rows n other (omega arith) got
  ];
  others = λ p apart.
      get_or-set_other new row.rep p k no_node (λ (e : p ≡ row.rep). apart k row (omega arith) at (sym e))
      ∙ h.others p (λ n other lt got. apart n other (omega arith) got);
}

pub numbered_all : (rows : List NodeRow) (old new : List ℕ) (k : ℕ) → length rows ≤ k → IsNumberedTo rows old new k → HasRowNumbers rows old new
numbered_all rows old new k long h = record {
  one_each = h.one_each;
  of_rows = λ n row got. h.of_rows n row (let lt = slice_get_within rows n row got in omega (arith, lt)) got;
  others = λ p apart. h.others p (λ n row lt got. apart n row got);
}

-- ---- the first k pixels, along the links

pub record IsFollowedTo (links old new : List ℕ) (k : ℕ) : Type 0 where
  pub one_each : length new ≡ length old
  pub kept : (p : ℕ) → node_number_at old p ≢ no_node → node_number_at new p ≡ node_number_at old p
  pub followed : (p : ℕ) → p < k → node_number_at old p ≡ no_node → node_number_at new p ≡ node_number_at new (link_of 0 links p)
  pub ahead : (p : ℕ) → k ≤ p → node_number_at new p ≡ node_number_at old p

-- the link of a pixel without a number leads to no pixel whose number is written now or later
link_below : (links old : List ℕ) (p k : ℕ) → LeadBack links old → p < length links → length links ≤ most_pixels → node_number_at old p ≡ no_node → p ≤ k
    → k < length links → link_of 0 links p ≢ k
link_below links old p k back lt few none le inside e = elim (back p lt none) [
  | inl far ↦ absurd (omega (arith, far, e, few, inside))
  | inr near ↦ absurd (omega (arith, near, e, le))
]

module _ (links old new : List ℕ) (k : ℕ) (back : LeadBack links old) (few : length links ≤ most_pixels) (count : length old ≡ length links)
    (inside : k < length links) (h : IsFollowedTo links old new k) where
  -- the next pixel has no number yet
  pub followed_more : node_number_at new k ≡ no_node → IsFollowedTo links old (set new k (node_number_at new (link_of 0 links k))) (k + 1)
  followed_more bare = record {
    one_each = length-set new k number ∙ h.one_each;
    kept = λ p some. other p (λ e. some (sym (h.ahead p (omega (arith, e))) ∙ ap (node_number_at new) e ∙ bare)) ∙ h.kept p some;
    followed = λ p lt none. elim (cases_eq p k) [
      | inl e ↦
          ap (node_number_at (set new k number)) e
          ∙ get_or-set_same new k number no_node (omega (arith, inside, count, h.one_each))
          ∙ ap (λ q. node_number_at new (link_of 0 links q)) (sym e)
          ∙ sym (other (link_of 0 links p) (link_below links old p k back (omega (arith, e, inside)) few none (omega (arith, e)) inside))
      | inr ne ↦
          other p ne ∙ h.followed p (omega (arith, lt, ne)) none
          ∙ sym (other (link_of 0 links p) (link_below links old p k back (omega (arith, lt, inside)) few none (omega (arith, lt)) inside))
    ];
    ahead = λ p from. other p (λ e. absurd (omega (arith, from, e))) ∙ h.ahead p (omega (arith, from));
  }
    where
      number : ℕ
      number = node_number_at new (link_of 0 links k)

      other : (p : ℕ) → p ≢ k → node_number_at (set new k number) p ≡ node_number_at new p
      other p ne = get_or-set_other new k p number no_node ne

  -- or it has one
  pub followed_same : node_number_at new k ≢ no_node → IsFollowedTo links old new (k + 1)
  followed_same some = record {
    one_each = h.one_each;
    kept = h.kept;
    followed = λ p lt none. elim (cases_eq p k) [
      | inl e ↦ absurd (some (ap (node_number_at new) (sym e) ∙ h.ahead p (omega (arith, e)) ∙ none))
      | inr ne ↦ h.followed p (omega (arith, lt, ne)) none
    ];
    ahead = λ p from. h.ahead p (omega (arith, from));
  }

-- an undefined pixel has no link
link_none : (r : Raster) (links : List ℕ) (p : ℕ) → IsForest r.values 0 links → p < length links → value_at r.values p ≡ None
    → link_of 0 links p ≡ no_node
link_none r links p forest lt undefined = elim (cases_eq (link_of 0 links p) no_node) [
  | inl e ↦ e
  | inr some ↦
      let k : IsPixelLink r links p = pixel_link r links p forest lt some in
      absurd (none_is_undefined (value_at r.values p) (ap (λ (o : Option ℤ). is_some o) undefined) k.defined)
]

-- so pixels without values have the number of their links, which is none
pub followed_over : (r : Raster) (links old new : List ℕ) (n m : ℕ) → IsForest r.values 0 links → length links ≤ most_pixels → length old ≡ length links
    → n ≤ m → m ≤ length links → HasGap r.values n m → IsFollowedTo links old new n → IsFollowedTo links old new m
followed_over r links old new n m forest few count le within gap h = record {
  one_each = h.one_each;
  kept = h.kept;
  followed = λ p lt none. elim (cases_lt p n) [
    | inl before ↦ h.followed p before none
    | inr from ↦
        h.ahead p from ∙ none
        ∙ sym (ap (node_number_at new) (link_none r links p forest (omega (arith, lt, within)) (gap p from lt))
        ∙ get_or_past new no_node no_node (omega (arith, few, count, h.one_each)))
  ];
  ahead = λ p from. h.ahead p (omega (arith, from, le));
}

pub followed_none : (links old : List ℕ) → IsFollowedTo links old old 0
followed_none links old = record { one_each = refl; kept = λ p some. refl; followed = λ p lt none. absurd (omega (arith, lt)); ahead = λ p from. refl }

pub followed_all : (links old new : List ℕ) → length links ≤ most_pixels → length old ≡ length links → IsFollowedTo links old new (length links)
    → HasLinkNumbers links old new
followed_all links old new few count h = record {
  one_each = h.one_each;
  kept = h.kept;
  followed = λ p none. elim (cases_lt p (length links)) [
    | inl lt ↦ h.followed p lt none
    | inr past ↦
        h.ahead p past ∙ none
        ∙ sym (ap (node_number_at new) (get_or_past links (p - 0) no_node (omega (arith, past)))
        ∙ get_or_past new no_node no_node (omega (arith, few, count, h.one_each)))
  ];
}

-- ---- both together

among : (r : Raster) (links : List ℕ) (p : ℕ) → IsTrue (is_canonical r links p) → IsAmong p (canonical_pixels r links)
unfolding canonical_pixels
among r links p h =
    among_in_order-from r (filter (is_canonical r links) (pixels r)) p
    (among-filter (is_canonical r links) p (pixels r) (among_from_defined r p (canonical-defined r links p h)) h)

pub place_of : (r : Raster) (links : List ℕ) (p : ℕ) → IsTrue (is_canonical r links p) → (n : ℕ) × (slice_get (canonical_pixels r links) n ≡ Some p)
place_of r links p h = among_get p (canonical_pixels r links) (among r links p h)

length-filter_le : (t : ℕ → Bool) (ps : List ℕ) → length (filter t ps) ≤ length ps
length-filter_le t [] = omega arith
length-filter_le t (p ∷ ps) = on (t p) (length-filter_le t ps)
  where
    on : (b : Bool) → length (filter t ps) ≤ length ps → length (cond b (p ∷ filter t ps) (filter t ps)) ≤ suc (length ps)
    on true h = omega arith
    on false h = omega arith

pub found_few : (r : Raster) (links ps : List ℕ) → length links ≡ length r.values → ps ≡ filter (is_canonical r links) (pixels r) → length ps ≤ length links
found_few r links ps whole is = omega (arith, ap length is, length-filter_le (is_canonical r links) (pixels r), length-pixels r)

module _ (r : Raster) (links : List ℕ) (whole : length links ≡ length r.values) (forest : IsForest r.values 0 links) (few : length links ≤ most_pixels)
    (rows : List NodeRow) (is : rows ≡ map (loose_row r) (canonical_pixels r links)) where
  canonical_few : length (canonical_pixels r links) ≤ length links
  unfolding canonical_pixels
  canonical_few =
      omega (arith, length-in_order r (filter (is_canonical r links) (pixels r)), length-filter_le (is_canonical r links) (pixels r), length-pixels r, whole)

  pub rows_few : length rows ≤ most_pixels
  rows_few = omega (arith, ap length is, length-map (canonical_pixels r links) (loose_row r), canonical_few, few)

  -- the row at a place is that of the canonical pixel there
  record IsRowOf (n : ℕ) (row : NodeRow) : Type 0 where
    pixel : slice_get (canonical_pixels r links) n ≡ Some row.rep
    canonical : IsTrue (is_canonical r links row.rep)

  row_of : (n : ℕ) (row : NodeRow) → slice_get rows n ≡ Some row → IsRowOf n row
  row_of n row got =
      let image : IsImage (loose_row r) (canonical_pixels r links) n row =
      get_from_map (loose_row r) (canonical_pixels r links) n row (subst (λ (xs : List NodeRow). slice_get xs n ≡ Some row) is got) in
      let same : image.it ≡ row.rep = ap (λ (x : NodeRow). x.rep) image.gives in
      let place = get_is (canonical_pixels r links) n image.it image.at in
      record {
        pixel = image.at ∙ ap (λ x. Some x) same;
        canonical = subst (λ x. IsTrue (is_canonical r links x)) (place.1 ∙ same)
            (canonical-is r links (get_or (canonical_pixels r links) n 0) (among_at (canonical_pixels r links) n place.0));
      }

  row_at : (n p : ℕ) → slice_get (canonical_pixels r links) n ≡ Some p → slice_get rows n ≡ Some (loose_row r p)
  row_at n p got = subst (λ (xs : List NodeRow). slice_get xs n ≡ Some (loose_row r p)) (sym is) (get-map (loose_row r) (canonical_pixels r links) n p got)

  pub rows_own : HaveOwnPixels rows
  rows_own m n first second got_first got_second same =
      let a = get_is (canonical_pixels r links) m first.rep ((row_of m first got_first).pixel) in
      let b = get_is (canonical_pixels r links) n second.rep ((row_of n second got_second).pixel) in
      ordered-same_place r (canonical_pixels r links) m n (canonical-ordered r links) a.0 b.0 (a.1 ∙ same ∙ sym b.1)

  pub rows_within : (numbers : List ℕ) → length numbers ≡ length links → All (λ row. row.rep < length numbers) rows
  rows_within numbers count k d lt =
      let got : slice_get rows k ≡ Some (get_or rows k d) = slice_get-get_or rows k d lt in
      let below = below_from_defined r (get_or rows k d).rep (canonical-defined r links (get_or rows k d).rep (row_of k (get_or rows k d) got).canonical) in
      omega (arith, below, whole, count)

  module _ (none numbers : List ℕ) (bare : none ≡ replicate (length links) no_node) (numbered : HasRowNumbers rows none numbers) where
    bare_at : (p : ℕ) → node_number_at none p ≡ no_node
    bare_at p = ap (λ xs. node_number_at xs p) bare ∙ elim (leb_tells (length links) p) [
      | inl far ↦ get_or_past (replicate (length links) no_node) p no_node (let e = length-replicate {A = ℕ} (length links) no_node in omega (arith, e, far.1))
      | inr near ↦ get_or-replicate (length links) p no_node no_node near.1
    ]

    number_of_place : (n p : ℕ) → slice_get (canonical_pixels r links) n ≡ Some p → node_number_at numbers p ≡ n
    number_of_place n p got = numbered.of_rows n (loose_row r p) (row_at n p got)

    small : (n p : ℕ) → slice_get (canonical_pixels r links) n ≡ Some p → n ≢ no_node
    small n p got e = let lt = slice_get_within (canonical_pixels r links) n p got in omega (arith, lt, canonical_few, few, e)

    pub rows_lead_back : LeadBack links numbers
    rows_lead_back p lt none_yet = elim (cases_eq (link_of 0 links p) no_node) [
      | inl e ↦ inl e
      | inr some ↦ inr (lower some (is_canonical r links p) refl)
    ]
      where
        lower : link_of 0 links p ≢ no_node → (b : Bool) → is_canonical r links p ≡ b → link_of 0 links p < p
        lower some true u = let k = place_of r links p u in absurd (small k.0 p k.1 (sym (number_of_place k.0 p k.1) ∙ none_yet))
        lower some false u =
            let k : IsPixelLink r links p = pixel_link r links p forest lt some in
            (before_level (value_at r.values (link_of 0 links p)) (value_at r.values p) (level r p) (link_of 0 links p) p (value-level r p k.defined)
            (link_high r links p k.defined some u) k.earlier).1

    pub is_numbering : (all : List ℕ) → length none ≡ length links → HasLinkNumbers links numbers all → IsNumbering r links all
    is_numbering all count linked = record {
      one_each = linked.one_each ∙ numbered.one_each ∙ count;
      canonical = λ n p got. linked.kept p (λ e. small n p got (sym (number_of_place n p got) ∙ e)) ∙ number_of_place n p got;
      others = λ p low. linked.followed p (numbered.others p (λ n row got (e : row.rep ≡ p).
          true≢false (sym (subst (λ x. IsTrue (is_canonical r links x)) e (row_of n row got).canonical) ∙ low)) ∙ bare_at p);
    }

-- the rows of the canonical pixels have the numbers that a numbering gives these
pub rows_by_pixels : (r : Raster) (links ps numbers : List ℕ) (rows : List NodeRow) → ps ≡ filter (is_canonical r links) (pixels r)
    → rows ≡ map (loose_row r) (canonical_pixels r links)
    → IsNumbering r links numbers → AreNumberedBy rows ps numbers
rows_by_pixels r links ps numbers rows found is numbering = record { rows_at = rows_at; all = all }
  where
    rows_at : (k : ℕ) → k < length ps → IsRowAt rows (node_number_at numbers (slice_index ps k)) (slice_index ps k)
    rows_at k lt =
        let member : IsAmong (slice_index ps k) (filter (is_canonical r links) (pixels r)) = subst (IsAmong (slice_index ps k)) found (among_at ps k lt) in
        let n = place_of r links (slice_index ps k) (among_from_filter (is_canonical r links) (slice_index ps k) (pixels r) member).1 in
        let place = get_is (canonical_pixels r links) n.0 (slice_index ps k) n.1 in
        subst (λ j. IsRowAt rows j (slice_index ps k)) (sym (numbering.canonical n.0 (slice_index ps k) n.1))
        (record {
          inside = omega (arith, place.0, ap length is, length-map (canonical_pixels r links) (loose_row r));
          pixel = ap (λ (xs : List NodeRow). (get_or xs n.0 blank).rep) is
              ∙ ap (λ (x : NodeRow). x.rep) (get_or-map (loose_row r) (canonical_pixels r links) n.0 0 blank place.0) ∙ place.1;
        })

    all : (n : ℕ) (row : NodeRow) → slice_get rows n ≡ Some row → (k : ℕ) × ((k < length ps) × (node_number_at numbers (slice_index ps k) ≡ n))
    all n row got =
        let image : IsImage (loose_row r) (canonical_pixels r links) n row =
        get_from_map (loose_row r) (canonical_pixels r links) n row (subst (λ (xs : List NodeRow). slice_get xs n ≡ Some row) is got) in
        let here = get_is (canonical_pixels r links) n image.it image.at in
        let member =
        canonical-found r links image.it (subst (λ x. IsAmong x (canonical_pixels r links)) here.1 (among_at (canonical_pixels r links) n here.0)) in
        let k = among_get image.it ps (subst (IsAmong image.it) (sym found) member) in
        let there = get_is ps k.0 image.it k.1 in
        (k.0, (there.0, ap (node_number_at numbers) there.1 ∙ numbering.canonical n image.it image.at))

pub pixels_within : (r : Raster) (links ps : List ℕ) → length links ≡ length r.values → ps ≡ filter (is_canonical r links) (pixels r)
    → All (λ p. p < length links) ps
pixels_within r links ps whole found k d lt =
    let at : get_or ps k d ≡ get_or ps k 0 = get_or_default ps k d 0 lt in
    let defined = defined_at r 0 ps (subst (ArePixelsFrom r 0) (sym found) (canonical-pixels r links)) k lt in
    omega (arith, at, below_from_defined r (get_or ps k 0) defined, whole)
