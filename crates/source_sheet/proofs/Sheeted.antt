-- A sheet that is laid out is one of the law, and what its places hold.
use Rattle.std.proofs.Common.{◌≡◌, ℕ, ◌<◌, ◌≤◌, zero, suc, List, [], ◌∷◌, length, refl, sym, ◌∙◌, ap, subst, arith, ◌⊎◌, inl, inr}
use Rattle.std.specs.Prelude.{IsTrue, ℤ, map, Contains, Some, slice_get, nat_lt, true}
use Rattle.std.proofs.lemmas.Bool.{and_from, and_parts, lt-ltb, ltb-true, cases_eq}
use Rattle.std.proofs.lemmas.Option.{same_Some, none-some}
use Rattle.lemmas.proofs.Exported.{IsAmong, among-map, among_of, contains_from_among}
use Rattle.comp_tree.specs.declared.shape.Connect.{Connect}
use Rattle.comp_tree.specs.Raster.{Raster, IsPlane, is_at_least}
use Rattle.comp_tree.specs.Components.{is_in_node, reaches}
use Rattle.comp_tree.specs.Laws.{IsNode, top_of}
use Rattle.comp_tree.specs.Windows.{in_whole}
use Rattle.comp_tree.specs.Grid.{IsAdjacency}
use Rattle.comp_tree.specs.Joined.{IsPairOf}
use Rattle.comp_tree.proofs.Exported.{adjacent_turned, along_joined, in_whole-one, seen-length, reaches-is_IsReached, reaches_end, reaches_sym}
use Rattle.source_pick.specs.declared.choice.Choice.{Choice}
use Rattle.source_pick.specs.Sources.{is_source}
use Rattle.source_pick.specs.Sheets.{Part, IsPartOf, IsHeld, IsSheetOf, IsMovedSource, is_high_there, window_size}
use Rattle.source_pick.proofs.Exported.{top_high, in_node_reached}
use Rattle.source_sheet.specs.declared.sheet.Place.{Place}
use Rattle.source_sheet.specs.declared.sheet.Sheet.{Sheet}
use Rattle.source_sheet.specs.Laid.{windows_of, part_of, IsLaidOut, HasFewAround, HoldsPixel}
use Rattle.source_sheet.specs.Checks.{LiesInBoth, IsInWindow}
use Rattle.source_sheet.specs.Backs.{SheetLaws, parts_of}

-- ---- members

-- what stands in a mapped list, and where in the first one
pub record IsMapped {X Y : Type 0} (f : X → Y) (xs : List X) (t : Y) : Type 0 where
  pub it : X
  pub place : ℕ
  pub got : slice_get xs place ≡ Some it
  pub is : f it ≡ t

pub mapped_from : {X Y : Type 0} (f : X → Y) (xs : List X) (t : Y) → IsAmong t (map f xs) → IsMapped f xs t
mapped_from f [] t m = absurd m
mapped_from f (x ∷ xs) t (inl e) = record { it = x; place = 0; got = refl; is = e }
mapped_from f (x ∷ xs) t (inr m) =
    let g : IsMapped f xs t = mapped_from f xs t m in record { it = g.it; place = suc g.place; got = g.got; is = g.is }

pub among_got : {X : Type 0} (x : X) (xs : List X) (i : ℕ) → slice_get xs i ≡ Some x → IsAmong x xs
among_got x [] i e = absurd (none-some x e)
among_got x (y ∷ xs) zero e = inl (same_Some y x e)
among_got x (y ∷ xs) (suc i) e = inr (among_got x xs i e)

-- ---- the law's sheet

module _ (r : Raster) (connect : Connect) (choice : Choice) (sheet : Sheet) (l : IsLaidOut r connect choice sheet)
    (laws : SheetLaws) where
  abbrev s : Raster
  s = sheet.plane

  abbrev h : ℤ
  h = choice.threshold

  part_is : (i : ℕ) (c : Place) → slice_get sheet.places.items i ≡ Some c → IsPartOf r s connect h (part_of s h c)
  part_is i c got = laws.parts r s connect h (windows_of c) l.one_each_there (l.copied i c got)

  pub placed : (i : ℕ) (c : Place) → slice_get sheet.places.items i ≡ Some c → LiesInBoth r.shape s.shape c
  placed i c got = let k = l.copied i c got in record { from = k.inside; to = k.inside_sheet }

  pub is_sheet_of : IsSheetOf r s connect choice (parts_of s h sheet.places.items)
  is_sheet_of = record {
    each = λ t m.
        let g : IsMapped (part_of s h) sheet.places.items t =
        mapped_from (part_of s h) sheet.places.items t (among_of t (map (part_of s h) sheet.places.items) m) in
        subst (λ (x : Part). IsPartOf r s connect h x) g.is (part_is g.place g.it g.got);
    sources_held = λ n hn k. go n hn k (l.held (top_of r connect n) (top_high r connect choice n l.one_each hn k));
  }
    where
      go : (n : ℕ) → IsNode r connect n → IsTrue (is_source r connect choice n)
          → ((i : ℕ) × ((c : Place) × (slice_get sheet.places.items i ≡ Some c) × HoldsPixel r s h c (top_of r connect n)))
          ⊎ HasFewAround r connect h choice.min_area (top_of r connect n)
          → (t : Part) × Contains (parts_of s h sheet.places.items) t × IsHeld r t.from t.own (top_of r connect n)
      go n hn k (inl g) = (
        part_of s h g.1.0,
        contains_from_among (part_of s h g.1.0) (map (part_of s h) sheet.places.items)
            (among-map (part_of s h) g.1.0 sheet.places.items (among_got g.1.0 sheet.places.items g.0 g.1.1)),
        g.1.2,
      )
      go n hn k (inr f) =
          let a : choice.min_area ≤ length f.reached = laws.large r connect choice n f.reached l.one_each hn k f.all in
          let b : length f.reached < choice.min_area = f.few in
          absurd (omega (arith, a, b))

  -- ---- pixels that a place holds on the sheet

  abbrev HoldsThere : Place → ℕ → Type 0
  HoldsThere c p = IsHeld s (part_of s h c).to (part_of s h c).own p

  pub held_lies : (c : Place) (p : ℕ) → HoldsThere c p → IsInWindow s.shape.width (windows_of c).to p
  unfolding is_high_there
  held_lies c p k = record {
    it = k.it;
    below = ltb-true k.it (window_size (windows_of c).to)
        (and_parts (nat_lt k.it (window_size (windows_of c).to)) (is_at_least s h (in_whole s.shape.width (windows_of c).to k.it)) k.is_own).0;
    place = k.place;
  }

  pub held_from : (c : Place) (p : ℕ) → IsInWindow s.shape.width (windows_of c).to p → IsTrue (is_at_least s h p) → HoldsThere c p
  unfolding is_high_there
  held_from c p k high = record {
    it = k.it;
    is_own =
        and_from (nat_lt k.it (window_size (windows_of c).to)) (is_at_least s h (in_whole s.shape.width (windows_of c).to k.it))
        (lt-ltb k.it (window_size (windows_of c).to) k.below) (subst (λ (x : ℕ). IsTrue (is_at_least s h x)) (sym k.place) high);
    place = k.place;
  }

  -- with a pixel it holds all that are reached from there
  held_along : (i : ℕ) (c : Place) → slice_get sheet.places.items i ≡ Some c → (p a : ℕ) → HoldsThere c p → IsTrue (reaches s connect h p a) → HoldsThere c a
  held_along i c got p a k way =
      along_joined (HoldsThere c) (λ x y held high e high_there. step x y held (one_way x y e) high_there) ((reaches-is_IsReached s connect h p a).0 way) k
    where
      one_way : (x y : ℕ) → IsPairOf (IsAdjacency s.values s.shape.width connect) x y → IsAdjacency s.values s.shape.width connect x y
      one_way x y (inl e) = e
      one_way x y (inr e) = adjacent_turned s.values s.shape.width connect y x e

      step : (x y : ℕ) → HoldsThere c x → IsAdjacency s.values s.shape.width connect x y → IsTrue (is_at_least s h y) → HoldsThere c y
      step x y held e high =
          let g : (b : ℕ) × (b < window_size (windows_of c).to) × (in_whole s.shape.width (windows_of c).to b ≡ y) =
          (l.copied i c got).beyond_sheet held.it y held.is_own (subst (λ (z : ℕ). IsAdjacency s.values s.shape.width connect z y) (sym held.place) e) in
          held_from c y (record { it = g.0; below = g.1; place = g.2 }) high

  way_down : (k p : ℕ) → IsNode s connect k → IsTrue (is_source s connect choice k) → is_in_node s connect k p ≡ true
      → IsTrue (reaches s connect h (top_of s connect k) p)
  way_down k p hk source inside =
      (reaches-is_IsReached s connect h (top_of s connect k) p).1
      (in_node_reached s connect h k p (top_high s connect choice k l.one_each_there hk source) inside)

  -- so a place that holds a source's top holds each pixel of it, and the other way round
  pub held_all : (i : ℕ) (c : Place) → slice_get sheet.places.items i ≡ Some c → (k p : ℕ) → IsNode s connect k → IsTrue (is_source s connect choice k)
      → HoldsThere c (top_of s connect k) → is_in_node s connect k p ≡ true → HoldsThere c p
  held_all i c got k p hk source held inside = held_along i c got (top_of s connect k) p held (way_down k p hk source inside)

  pub held_top : (i : ℕ) (c : Place) → slice_get sheet.places.items i ≡ Some c → (k p : ℕ) → IsNode s connect k → IsTrue (is_source s connect choice k)
      → IsInWindow s.shape.width (windows_of c).to p → is_in_node s connect k p ≡ true → HoldsThere c (top_of s connect k)
  held_top i c got k p hk source lies inside =
      held_along i c got p (top_of s connect k)
      (held_from c p lies (reaches_end s connect h (top_of s connect k) p (way_down k p hk source inside)))
      (reaches_sym s connect h (top_of s connect k) p (way_down k p hk source inside))

  -- ---- a source of the plane is one of the sheet

  -- two sources of a plane that share a pixel are one
  same_from_share : (x : Raster) (m n q : ℕ) → IsPlane x → IsNode x connect m → IsNode x connect n → IsTrue (is_source x connect choice m)
      → IsTrue (is_source x connect choice n) → is_in_node x connect m q ≡ true → is_in_node x connect n q ≡ true → m ≡ n
  same_from_share x m n q plane hm hn is_m is_n in_m in_n = go (cases_eq m n)
    where
      go : (m ≡ n) ⊎ (m ≡ n → ⊥) → m ≡ n
      go (inl e) = e
      go (inr d) = absurd (laws.disjoint x connect choice m n plane hm hn is_m is_n d q in_m in_n)

  -- source k of the sheet, which a place holds
  pub record IsPlacedSource (c : Place) (k : ℕ) : Type 0 where
    pub place : ℕ
    pub got : slice_get sheet.places.items place ≡ Some c
    pub node : IsNode s connect k
    pub source : IsTrue (is_source s connect choice k)
    pub held : HoldsThere c (top_of s connect k)

  pub moved_source : (c : Place) (k : ℕ) → IsPlacedSource c k → (n : ℕ) × IsMovedSource r s connect choice (part_of s h c) n k
  moved_source c k g =
      laws.come r s connect choice (part_of s h c) k l.one_each l.one_each_there (part_is g.place c g.got) g.node g.source g.held

  -- a pixel of it on the sheet is one of the plane's source, where the place's window has it
  pub moved_pixel : (c : Place) (k : ℕ) → (g : IsPlacedSource c k) → (q : ℕ) → q < window_size (windows_of c).to
      → is_in_node s connect k (in_whole s.shape.width (windows_of c).to q) ≡ is_in_node r connect (moved_source c k g).0 (in_whole r.shape.width (windows_of c).from q)
  moved_pixel c k g q few =
      let m : IsMovedSource r s connect choice (part_of s h c) (moved_source c k g).0 k = (moved_source c k g).1 in
      let below : q < length (part_of s h c).plane.values = subst (λ (x : ℕ). q < x) (sym (seen-length (windows_of c).to s)) few in
      m.to.pixels q below ∙ sym (m.from.pixels q below)

  -- two that share a pixel of the plane are one source at one place
  pub one_source : (c e : Place) (k j : ℕ) → (g : IsPlacedSource c k) → (f : IsPlacedSource e j) → (a b : ℕ)
      → a < window_size (windows_of c).to → b < window_size (windows_of e).to
      → in_whole r.shape.width (windows_of c).from a ≡ in_whole r.shape.width (windows_of e).from b
      → is_in_node s connect k (in_whole s.shape.width (windows_of c).to a) ≡ true
      → is_in_node s connect j (in_whole s.shape.width (windows_of e).to b) ≡ true → (g.place ≡ f.place) × (c ≡ e) × (k ≡ j)
  one_source c e k j g f a b few_a few_b same in_k in_j = (places, same_place, nodes)
    where
      m : (n : ℕ) × IsMovedSource r s connect choice (part_of s h c) n k
      m = moved_source c k g

      u : (n : ℕ) × IsMovedSource r s connect choice (part_of s h e) n j
      u = moved_source e j f

      in_m : is_in_node r connect m.0 (in_whole r.shape.width (windows_of c).from a) ≡ true
      in_m = sym (moved_pixel c k g a few_a) ∙ in_k

      in_u : is_in_node r connect u.0 (in_whole r.shape.width (windows_of c).from a) ≡ true
      in_u = ap (is_in_node r connect u.0) same ∙ sym (moved_pixel e j f b few_b) ∙ in_j

      one : m.0 ≡ u.0
      one =
          same_from_share r m.0 u.0 (in_whole r.shape.width (windows_of c).from a) l.one_each m.1.node u.1.node m.1.source u.1.source in_m in_u

      places : g.place ≡ f.place
      places =
          l.apart g.place f.place (top_of r connect m.0) c e g.got f.got m.1.held
          (subst (λ (x : ℕ). HoldsPixel r s h e (top_of r connect x)) (sym one) u.1.held)

      same_place : c ≡ e
      same_place = same_Some c e (sym g.got ∙ ap (slice_get sheet.places.items) places ∙ f.got)

      spot : a ≡ b
      spot =
          in_whole-one r.shape (windows_of c).from a b (placed g.place c g.got).from
          (same ∙ ap (λ (x : Place). in_whole r.shape.width (windows_of x).from b) (sym same_place))

      nodes : k ≡ j
      nodes =
          same_from_share s k j (in_whole s.shape.width (windows_of c).to a) l.one_each_there g.node f.node g.source f.source in_k
          (ap (λ (x : ℕ). is_in_node s connect j (in_whole s.shape.width (windows_of c).to x)) spot
          ∙ ap (λ (x : Place). is_in_node s connect j (in_whole s.shape.width (windows_of x).to b)) same_place ∙ in_j)
