-- The lines of nodes, stretch by stretch: those before a place, the one there, and those after it; and how they wait for a sink.
use Rattle.std.proofs.Common.{◌≡◌, ◌∙◌, ℕ, zero, suc, ◌+◌, ◌-◌, ◌<◌, ◌≤◌, List, [], ◌∷◌, ◌++◌, get_or, length, map, ap, sym, subst, arith}
use Rattle.std.proofs.Common.{append-nil, append_assoc, take, drop, take-add, take_all, take-append-drop}
use Rattle.std.specs.List.{concat, range_with_len}
use Rattle.std.proofs.lemmas.List.FromFn.{map-range_with_len_more}
use Rattle.std.proofs.lemmas.List.Folds.{concat-append}
use Rattle.std.specs.declared.option.Option.{Option}
use Rattle.dev_io.specs.Streams.{AppendsPrefix}
use Rattle.dev_io.specs.Laws.{AppendsPrefix-more}
use Rattle.dev_io.specs.Blocks.{Moves, Moves-after, Moves-cut}
use Rattle.comp_tree.specs.declared.tree.NodeRow.{NodeRow}
use Rattle.tree_products.specs.Lines.{line_at, lines_of, node_line, row_numbered, tree_lines}
use Rattle.tree_products.specs.LineStretches.{lines_between}

-- the line of a node, by its row and its area
pub line_is : (rows : List NodeRow) (areas : List ℕ) (n : ℕ) (row : NodeRow) (area : ℕ) → row ≡ row_numbered rows n → area ≡ get_or areas n 0
    → node_line n row area ≡ line_at rows areas n
line_is rows areas n row area is here = ap (λ r. node_line n r area) is ∙ ap (λ a. node_line n (row_numbered rows n) a) here

-- ---- stretches

pub between_none : (rows : List NodeRow) (areas : List ℕ) (first : ℕ) → lines_between rows areas first first ≡ []
unfolding lines_between
between_none rows areas first =
    ap (λ n. concat (map (line_at rows areas) (range_with_len first n))) (let e : first - first ≡ 0 = omega arith in e)

pub between_one : (rows : List NodeRow) (areas : List ℕ) (first n : ℕ) → first ≤ n
    → lines_between rows areas first n ++ line_at rows areas n ≡ lines_between rows areas first (n + 1)
unfolding lines_between
between_one rows areas first n le =
    let f = line_at rows areas in let front = map f (range_with_len first (n - first)) in
    sym (ap (λ k. concat (map f (range_with_len first k))) (let e : n + 1 - first ≡ n - first + 1 = omega (arith, le) in e)
    ∙ ap concat (map-range_with_len_more f first (n - first) n (omega (arith, le))) ∙ concat-append front (f n ∷ [])
    ∙ ap (λ l. concat front ++ l) (append-nil (f n)))

both_by : (rows : List NodeRow) (areas : List ℕ) (a b k : ℕ) → a ≤ b
    → lines_between rows areas a b ++ lines_between rows areas b (b + k) ≡ lines_between rows areas a (b + k)
both_by rows areas a b zero le =
    ap (λ n. lines_between rows areas a b ++ lines_between rows areas b n) (let e : b + 0 ≡ b = omega arith in e)
    ∙ ap (λ l. lines_between rows areas a b ++ l) (between_none rows areas b) ∙ append-nil (lines_between rows areas a b)
    ∙ ap (lines_between rows areas a) (let e : b ≡ b + 0 = omega arith in e)
both_by rows areas a b (suc k) le =
    let next : b + suc k ≡ b + k + 1 = omega arith in
    ap (λ n. lines_between rows areas a b ++ lines_between rows areas b n) next
    ∙ ap (λ l. lines_between rows areas a b ++ l) (sym (between_one rows areas b (b + k) (omega arith)))
    ∙ sym (append_assoc (lines_between rows areas a b) (lines_between rows areas b (b + k)) (line_at rows areas (b + k)))
    ∙ ap (λ l. l ++ line_at rows areas (b + k)) (both_by rows areas a b k le)
    ∙ between_one rows areas a (b + k) (omega (arith, le)) ∙ ap (lines_between rows areas a) (sym next)

pub between_both : (rows : List NodeRow) (areas : List ℕ) (a b c : ℕ) → a ≤ b → b ≤ c
    → lines_between rows areas a b ++ lines_between rows areas b c ≡ lines_between rows areas a c
between_both rows areas a b c le more =
    subst (λ n. lines_between rows areas a b ++ lines_between rows areas b n ≡ lines_between rows areas a n)
    (let e : b + (c - b) ≡ c = omega (arith, more) in e) (both_by rows areas a b (c - b) le)

-- the lines of all nodes
pub between_all : (rows : List NodeRow) (areas : List ℕ) → lines_between rows areas 0 (length rows) ≡ tree_lines rows areas
unfolding lines_between lines_of tree_lines
between_all rows areas =
    ap (λ n. concat (map (line_at rows areas) (range_with_len 0 n))) (let e : length rows - 0 ≡ length rows = omega arith in e)

-- ---- pieces on their way to a sink

-- the next piece waits, too
pub next_waits : (a b c : Option (List ℕ)) (start front piece more v w : List ℕ) → front ++ piece ≡ more → Moves a b (start ++ front) v
    → Moves b c (v ++ piece) w → Moves a c (start ++ more) w
next_waits a b c start front piece more v w is before here =
    subst (λ l. Moves a c l w) (append_assoc start front piece ∙ ap (λ l. start ++ l) is) (Moves-after a b c (start ++ front) piece v w before here)

-- the next piece was cut short
pub next_cut : (a b c : Option (List ℕ)) (start front piece rest all v : List ℕ) → (front ++ piece) ++ rest ≡ all → Moves a b (start ++ front) v
    → AppendsPrefix b c (v ++ piece) → AppendsPrefix a c (start ++ all)
next_cut a b c start front piece rest all v is before here =
    let whole : ((start ++ front) ++ piece) ++ rest ≡ start ++ all =
    ap (λ l. l ++ rest) (append_assoc start front piece) ∙ append_assoc start (front ++ piece) rest ∙ ap (λ l. start ++ l) is in
    subst (AppendsPrefix a c) whole (AppendsPrefix-more a c ((start ++ front) ++ piece) rest (Moves-cut a b c (start ++ front) piece v before here))

-- no line yet
pub lines_begin : (a : Option (List ℕ)) (start : List ℕ) (rows : List NodeRow) (areas : List ℕ) (first : ℕ) → Moves a a (start ++ []) start
    → Moves a a (start ++ lines_between rows areas first first) start
lines_begin a start rows areas first nothing = subst (λ l. Moves a a (start ++ l) start) (sym (between_none rows areas first)) nothing

-- the line of node n waits, too
pub line_waits : (a b c : Option (List ℕ)) (start : List ℕ) (rows : List NodeRow) (areas v w : List ℕ) (first n : ℕ) (line : List ℕ) → first ≤ n
    → line ≡ line_at rows areas n → Moves a b (start ++ lines_between rows areas first n) v → Moves b c (v ++ line) w
    → Moves a c (start ++ lines_between rows areas first (n + 1)) w
line_waits a b c start rows areas v w first n line le is before here =
    next_waits a b c start (lines_between rows areas first n) line (lines_between rows areas first (n + 1)) v w
    (ap (λ l. lines_between rows areas first n ++ l) is ∙ between_one rows areas first n le) before here

-- the line of node n was cut short
pub line_cut : (a b c : Option (List ℕ)) (start : List ℕ) (rows : List NodeRow) (areas v : List ℕ) (first n end : ℕ) (line : List ℕ) → first ≤ n → n < end
    → line ≡ line_at rows areas n → Moves a b (start ++ lines_between rows areas first n) v → AppendsPrefix b c (v ++ line)
    → AppendsPrefix a c (start ++ lines_between rows areas first end)
line_cut a b c start rows areas v first n end line le below is before here =
    next_cut a b c start (lines_between rows areas first n) line (lines_between rows areas (n + 1) end) (lines_between rows areas first end) v
    (ap (λ l. l ++ lines_between rows areas (n + 1) end) (ap (λ l. lines_between rows areas first n ++ l) is ∙ between_one rows areas first n le)
    ∙ between_both rows areas first (n + 1) end (omega (arith, le)) (omega (arith, below))) before here

-- the lines of a further round wait, too
pub round_waits : (a b c : Option (List ℕ)) (start : List ℕ) (rows : List NodeRow) (areas v w : List ℕ) (n end : ℕ) → n ≤ end
    → Moves a b (start ++ lines_between rows areas 0 n) v → Moves b c (v ++ lines_between rows areas n end) w
    → Moves a c (start ++ lines_between rows areas 0 end) w
round_waits a b c start rows areas v w n end le before here =
    next_waits a b c start (lines_between rows areas 0 n) (lines_between rows areas n end) (lines_between rows areas 0 end) v w
    (between_both rows areas 0 n end (omega arith) le) before here

-- the lines of all rounds wait
pub rounds_all : (a b : Option (List ℕ)) (start : List ℕ) (rows : List NodeRow) (areas v : List ℕ) (n : ℕ) → n ≡ length rows
    → Moves a b (start ++ lines_between rows areas 0 n) v → Moves a b (start ++ tree_lines rows areas) v
rounds_all a b start rows areas v n all moved =
    subst (λ l. Moves a b (start ++ l) v) (ap (lines_between rows areas 0) all ∙ between_all rows areas) moved

-- the lines of a further round were cut short
pub round_cut : (a b c : Option (List ℕ)) (start : List ℕ) (rows : List NodeRow) (areas v : List ℕ) (n end : ℕ) → n ≤ end → end ≤ length rows
    → Moves a b (start ++ lines_between rows areas 0 n) v → AppendsPrefix b c (v ++ lines_between rows areas n end)
    → AppendsPrefix a c (start ++ tree_lines rows areas)
round_cut a b c start rows areas v n end le inside before here =
    next_cut a b c start (lines_between rows areas 0 n) (lines_between rows areas n end) (lines_between rows areas end (length rows)) (tree_lines rows areas) v
    (ap (λ l. l ++ lines_between rows areas end (length rows)) (between_both rows areas 0 n end (omega arith) le)
    ∙ between_both rows areas 0 end (length rows) (omega arith) inside ∙ between_all rows areas) before here

-- ---- a text, as its bytes wait

bytes_more : (text : List ℕ) (n k : ℕ) → n ≤ k → take n text ++ take (k - n) (drop n text) ≡ take k text
bytes_more text n k le = sym (take-add n (k - n) text) ∙ ap (λ (i : ℕ). take i text) (let back : n + (k - n) ≡ k = omega (arith, le) in back)

-- the bytes of a text up to k wait, too
pub bytes_wait : (a b c : Option (List ℕ)) (start text v w : List ℕ) (n k : ℕ) → n ≤ k → Moves a b (start ++ take n text) v
    → Moves b c (v ++ take (k - n) (drop n text)) w → Moves a c (start ++ take k text) w
bytes_wait a b c start text v w n k le before here =
    next_waits a b c start (take n text) (take (k - n) (drop n text)) (take k text) v w (bytes_more text n k le) before here

-- they were cut short
pub bytes_cut : (a b c : Option (List ℕ)) (start text v : List ℕ) (n k : ℕ) → n ≤ k → Moves a b (start ++ take n text) v
    → AppendsPrefix b c (v ++ take (k - n) (drop n text)) → AppendsPrefix a c (start ++ text)
bytes_cut a b c start text v n k le before here =
    next_cut a b c start (take n text) (take (k - n) (drop n text)) (drop k text) text v
    (ap (λ l. l ++ drop k text) (bytes_more text n k le) ∙ take-append-drop k text) before here

-- all of them wait
pub bytes_all : (a b : Option (List ℕ)) (start text v : List ℕ) (n : ℕ) → length text ≤ n → Moves a b (start ++ take n text) v → Moves a b (start ++ text) v
bytes_all a b start text v n all moved = subst (λ l. Moves a b (start ++ l) v) (take_all n text all) moved
