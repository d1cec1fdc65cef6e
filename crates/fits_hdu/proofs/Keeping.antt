-- What is kept of one axis or one card more.
use Rattle.std.proofs.Common.{◌≡◌, ℕ, ◌*◌, ◌≤◌, Bool, true, false, ◌&&◌, List, [], ◌∷◌, ◌++◌, length, Option, Some, None, refl, sym, ap, ◌∙◌, arith, cond, not}
use Rattle.std.proofs.Common.{◌||◌, is_none, is_some, codes}
use Rattle.std.specs.Prelude.{◌==◌, find}
use Rattle.std.specs.List.{list_all}
use Rattle.std.specs.Option.{option_map, option_or}
use Rattle.std.proofs.lemmas.List.Folds.{list_all-append, find-append}
use Rattle.fits_card.specs.declared.number.Whole.{Whole}
use Rattle.fits_hdu.specs.declared.axes.Axes.{Axes}
use Rattle.fits_hdu.specs.declared.others.Others.{Others}
use Rattle.fits_hdu.specs.Cards.{is_true, whole, is_valued, natural}
use Rattle.fits_hdu.specs.Sizes.{product}
use Rattle.fits_hdu.specs.Headers.{counting, is_bad_count, natural_or_zero}
use Rattle.fits_hdu.specs.Kept.{held, kept_axes, kept_others}
use Rattle.fits_hdu.proofs.Saturating.{held-times, product-append}

product_more : (axes : List ℕ) (n : ℕ) → held (held (product axes) * n) ≡ held (product (axes ++ n ∷ []))
product_more axes n = held-times (product axes) n ∙ ap held (sym (product-append axes n))

pub kept_first : (axes : List ℕ) (kept : Axes) (n product : ℕ) → length axes ≡ 0 → kept ≡ kept_axes axes → product ≡ held (kept.product * n)
    → record { width = n; height = 0; flat = true; product = product } ≡ kept_axes (axes ++ n ∷ [])
unfolding kept_axes
kept_first [] kept n p count is product_is =
    let all : p ≡ held (product (n ∷ [])) = product_is ∙ ap (λ k. held (k.product * n)) is ∙ product_more [] n in rw all refl
kept_first (x ∷ axes) kept n p count is product_is = absurd (omega arith)

pub kept_second : (axes : List ℕ) (kept : Axes) (n product : ℕ) → length axes ≡ 1 → kept ≡ kept_axes axes → product ≡ held (kept.product * n)
    → record { width = kept.width; height = n; flat = true; product = product } ≡ kept_axes (axes ++ n ∷ [])
unfolding kept_axes
kept_second [] kept n p count is product_is = absurd (omega arith)
kept_second (x ∷ []) kept n p count is product_is =
    let all : p ≡ held (product (x ∷ n ∷ [])) = product_is ∙ ap (λ k. held (k.product * n)) is ∙ product_more (x ∷ []) n in rw (all, is) refl
kept_second (x ∷ y ∷ axes) kept n p count is product_is = absurd (omega arith)

flat_more : (axes : List ℕ) (n : ℕ) → list_all (λ k. k == 1) (axes ++ n ∷ []) ≡ (list_all (λ k. k == 1) axes && (n == 1))
flat_more axes n = list_all-append (λ k. k == 1) axes (n ∷ []) ∙ ap (λ b. list_all (λ k. k == 1) axes && b) (last (n == 1))
  where
    last : (b : Bool) → (b && true) ≡ b
    last true = refl
    last false = refl

pub kept_later : (axes : List ℕ) (kept : Axes) (n product : ℕ) (flat : Bool) → 2 ≤ length axes → kept ≡ kept_axes axes → product ≡ held (kept.product * n)
    → flat ≡ (kept.flat && (n == 1))
    → record { width = kept.width; height = kept.height; flat = flat; product = product } ≡ kept_axes (axes ++ n ∷ [])
unfolding kept_axes
kept_later [] kept n p flat count is product_is flat_is = absurd (omega arith)
kept_later (x ∷ []) kept n p flat count is product_is flat_is = absurd (omega arith)
kept_later (x ∷ y ∷ axes) kept n p flat count is product_is flat_is =
    let all : p ≡ held (product ((x ∷ y ∷ axes) ++ n ∷ [])) = product_is ∙ ap (λ k. held (k.product * n)) is ∙ product_more (x ∷ y ∷ axes) n in
    let even : flat ≡ list_all (λ k. k == 1) (axes ++ n ∷ []) = flat_is ∙ ap (λ k. k.flat && (n == 1)) is ∙ sym (flat_more axes n) in
    rw (all, even, is) refl

-- the first card that counts, with one card more
counting_more : {T : Type 0} (f : List ℕ → T) (name : List ℕ) (cards : List (List ℕ)) (card : List ℕ)
    → option_map f (counting name (cards ++ card ∷ [])) ≡ option_or (option_map f (counting name cards)) (cond (is_valued name card) (Some (f card)) None)
unfolding counting
counting_more f name cards card =
    ap (option_map f) (find-append (is_valued name) cards (card ∷ [])) ∙ by (find (is_valued name) cards)
  where
    one : (b : Bool) → option_map f (cond b (Some card) None) ≡ cond b (Some (f card)) None
    one true = refl
    one false = refl

    by : (o : Option (List ℕ))
        → option_map f (option_or o (find (is_valued name) (card ∷ []))) ≡ option_or (option_map f o) (cond (is_valued name card) (Some (f card)) None)
    by None = one (is_valued name card)
    by (Some c) = refl

kept_or : {T : Type 0} (f : List ℕ → T) (name : List ℕ) (cards : List (List ℕ)) (card : List ℕ) (kept : Option T) (valued : Bool)
    → kept ≡ option_map f (counting name cards) → is_valued name card ≡ valued
    → option_or kept (cond valued (Some (f card)) None) ≡ option_map f (counting name (cards ++ card ∷ []))
kept_or f name cards card kept valued is v = rw (is, ← v) (sym (counting_more f name cards card))

-- it is the new card, where none was kept and it has a value
pub keep_new : {T : Type 0} (f : List ℕ → T) (name : List ℕ) (cards : List (List ℕ)) (card : List ℕ) (kept : Option T)
    → kept ≡ option_map f (counting name cards) → is_some kept ≡ false → is_valued name card ≡ true
    → Some (f card) ≡ option_map f (counting name (cards ++ card ∷ []))
keep_new f name cards card None is none valued = kept_or f name cards card None true is valued
keep_new f name cards card (Some x) is none valued = absurd (cc)

-- it is the one that was kept, where there is one
pub keep_old : {T : Type 0} (f : List ℕ → T) (name : List ℕ) (cards : List (List ℕ)) (card : List ℕ) (kept : Option T)
    → kept ≡ option_map f (counting name cards) → is_some kept ≡ true → kept ≡ option_map f (counting name (cards ++ card ∷ []))
keep_old f name cards card None is some = absurd (cc)
keep_old f name cards card (Some x) is some = kept_or f name cards card (Some x) (is_valued name card) is refl

-- the card has no value
pub keep_same : {T : Type 0} (f : List ℕ → T) (name : List ℕ) (cards : List (List ℕ)) (card : List ℕ) (kept : Option T)
    → kept ≡ option_map f (counting name cards) → is_valued name card ≡ false → kept ≡ option_map f (counting name (cards ++ card ∷ []))
keep_same f name cards card None is valued = kept_or f name cards card None false is valued
keep_same f name cards card (Some x) is valued = kept_or f name cards card (Some x) false is valued

pub others_more : (cards : List (List ℕ)) (card : List ℕ) (groups : Option Bool) (pcount gcount : Option ℕ) (bscale bzero blank : Option Whole)
    → groups ≡ option_map is_true (counting (codes "GROUPS  ") (cards ++ card ∷ []))
    → pcount ≡ option_map natural_or_zero (counting (codes "PCOUNT  ") (cards ++ card ∷ []))
    → gcount ≡ option_map natural_or_zero (counting (codes "GCOUNT  ") (cards ++ card ∷ []))
    → bscale ≡ option_map whole (counting (codes "BSCALE  ") (cards ++ card ∷ []))
    → bzero ≡ option_map whole (counting (codes "BZERO   ") (cards ++ card ∷ []))
    → blank ≡ option_map whole (counting (codes "BLANK   ") (cards ++ card ∷ []))
    → record { groups = groups; pcount = pcount; gcount = gcount; bscale = bscale; bzero = bzero; blank = blank } ≡ kept_others (cards ++ card ∷ [])
unfolding kept_others
others_more cards card groups pcount gcount bscale bzero blank a b c d e f = rw (a, b, c, d, e, f) refl

-- whether one is kept
is_none_kept : {T : Type 0} (f : List ℕ → T) (name : List ℕ) (cards : List (List ℕ)) (kept : Option T) → kept ≡ option_map f (counting name cards)
    → is_none kept ≡ is_none (counting name cards)
is_none_kept f name cards kept is = ap is_none is ∙ by (counting name cards)
  where
    by : (o : Option (List ℕ)) → is_none (option_map f o) ≡ is_none o
    by None = refl
    by (Some c) = refl

none_from : {T : Type 0} (o : Option T) (none : Bool) → is_some o ≡ not none → is_none o ≡ none
none_from None true h = refl
none_from None false h = absurd (cc)
none_from (Some x) true h = absurd (cc)
none_from (Some x) false h = refl

-- the card that counts and isn't an integer from 0
pub bad_count : (name : List ℕ) (cards : List (List ℕ)) (card : List ℕ) (kept : Option ℕ) (valued none unread : Bool)
    → kept ≡ option_map natural_or_zero (counting name cards)
    → is_valued name card ≡ valued → is_some kept ≡ not none → is_some (natural card) ≡ not unread → is_bad_count name cards card ≡ (valued && (none && unread))
unfolding is_bad_count
bad_count name cards card kept valued none unread is a b c =
    let first : is_none (counting name cards) ≡ none = sym (is_none_kept natural_or_zero name cards kept is) ∙ none_from kept none b in
    let second : is_none (natural card) ≡ unread = none_from (natural card) unread c in
    rw (a, first, second) refl

pub good_unvalued : (name : List ℕ) (cards : List (List ℕ)) (card : List ℕ) → is_valued name card ≡ false → is_bad_count name cards card ≡ false
unfolding is_bad_count
good_unvalued name cards card a = rw a refl

pub good_kept : (name : List ℕ) (cards : List (List ℕ)) (card : List ℕ) (kept : Option ℕ) → kept ≡ option_map natural_or_zero (counting name cards)
    → is_valued name card ≡ true → is_some kept ≡ true → is_bad_count name cards card ≡ false
unfolding is_bad_count
good_kept name cards card kept is a b =
    let first : is_none (counting name cards) ≡ false = sym (is_none_kept natural_or_zero name cards kept is) ∙ none_from kept false b in
    rw (a, first) refl

pub groups_kept : (cards : List (List ℕ)) (others : Others) → others ≡ kept_others cards
    → others.groups ≡ option_map is_true (counting (codes "GROUPS  ") cards)
unfolding kept_others
groups_kept cards others is = ap (λ (o : Others). o.groups) is

pub pcount_kept : (cards : List (List ℕ)) (others : Others) → others ≡ kept_others cards
    → others.pcount ≡ option_map natural_or_zero (counting (codes "PCOUNT  ") cards)
unfolding kept_others
pcount_kept cards others is = ap (λ (o : Others). o.pcount) is

pub gcount_kept : (cards : List (List ℕ)) (others : Others) → others ≡ kept_others cards
    → others.gcount ≡ option_map natural_or_zero (counting (codes "GCOUNT  ") cards)
unfolding kept_others
gcount_kept cards others is = ap (λ (o : Others). o.gcount) is

pub bscale_kept : (cards : List (List ℕ)) (others : Others) → others ≡ kept_others cards → others.bscale ≡ option_map whole (counting (codes "BSCALE  ") cards)
unfolding kept_others
bscale_kept cards others is = ap (λ (o : Others). o.bscale) is

pub bzero_kept : (cards : List (List ℕ)) (others : Others) → others ≡ kept_others cards → others.bzero ≡ option_map whole (counting (codes "BZERO   ") cards)
unfolding kept_others
bzero_kept cards others is = ap (λ (o : Others). o.bzero) is

pub blank_kept : (cards : List (List ℕ)) (others : Others) → others ≡ kept_others cards → others.blank ≡ option_map whole (counting (codes "BLANK   ") cards)
unfolding kept_others
blank_kept cards others is = ap (λ (o : Others). o.blank) is

pub or_first : (r a b : Bool) → r ≡ true → r ≡ a → r ≡ (a || b)
or_first r true b h e = h
or_first r false b h e = absurd (cc)

pub or_second : (r s a b : Bool) → r ≡ false → r ≡ a → s ≡ b → s ≡ (a || b)
or_second r s true b h e f = absurd (cc)
or_second r s false b h e f = f

pub none_kept : (record { groups = None; pcount = None; gcount = None; bscale = None; bzero = None; blank = None }) ≡ kept_others []
unfolding kept_others counting
none_kept = refl

pub no_axes : record { width = 0; height = 0; flat = true; product = 1 } ≡ kept_axes []
unfolding kept_axes
no_axes = refl
