-- A tree of moments: what stands below a node.
use Rattle.std.proofs.Common.{◌≡◌, ℕ, zero, suc, ◌+◌, ◌-◌, ◌*◌, ◌/◌, ◌^◌, ◌<◌, ◌≤◌, List, length, get_or, take, drop, ◌%◌, refl, sym, ap, ◌∙◌, inl, inr, arith, length-drop, set, ◌≢◌}
use Rattle.std.specs.Prelude.{slice_index}
use Rattle.std.proofs.Math.Nat.{pow-suc, le-div_iff_mul-le, mul_assoc, mul-one}
use Rattle.std.proofs.Math.Pow.{pow_mono}
use Rattle.std.proofs.lemmas.List.{ext_get_or, length-take, get_or-take, get_or-drop, get_or-set_other}
use Rattle.std.proofs.lemmas.Nat.{pow_pos, mul-le, one_shl}
use Rattle.std.proofs.lemmas.Bool.{cases_lt}
use Rattle.esm_queue.specs.Nodes.{HasLeast, IsFirstLeaf, NoLeaf}

-- the leaves below a node are those below its left node and those below its right node

pub pow_halves : (h : ℕ) → (h ≡ 0 → ⊥) → 2 ^ h ≡ 2 ^ (h - 1) * 2
pow_halves zero some = absurd (some refl)
pow_halves (suc k) some = let e : suc k - 1 ≡ k = omega arith in rw e (pow-suc 2 k)

pub left_low : (n s : ℕ) → (2 * n) * s ≡ n * (s * 2)
left_low n s = grind arith

pub left_high : (n s : ℕ) → (2 * n + 1) * s ≡ n * (s * 2) + s
left_high n s = grind arith

pub right_high : (n s : ℕ) → (2 * n + 1 + 1) * s ≡ n * (s * 2) + s * 2
right_high n s = grind arith

pub whole_high : (n s : ℕ) → (n + 1) * (s * 2) ≡ n * (s * 2) + s * 2
whole_high n s = grind arith

pub le_times : (n p : ℕ) → 1 ≤ p → n ≤ n * p
le_times n p some = grind (arith, mul-le n 1 n p)

-- where the two halves of a node's leaves lie
pub record Halves (node h : ℕ) : Type 0 where
  pub left : 2 * node * 2 ^ (h - 1) ≡ node * 2 ^ h
  pub middle : (2 * node + 1) * 2 ^ (h - 1) ≡ node * 2 ^ h + 2 ^ (h - 1)
  pub right : (2 * node + 1 + 1) * 2 ^ (h - 1) ≡ (node + 1) * 2 ^ h
  pub whole : (node + 1) * 2 ^ h ≡ node * 2 ^ h + 2 ^ (h - 1) + 2 ^ (h - 1)
  pub some : 1 ≤ 2 ^ (h - 1)

pub halves : (node h : ℕ) → (h ≡ 0 → ⊥) → Halves node h
halves node h ne =
    let s = 2 ^ (h - 1) in
    let e : 2 ^ h ≡ s * 2 = pow_halves h ne in
    let whole : (node + 1) * (s * 2) ≡ node * (s * 2) + s * 2 = whole_high node s in
    record {
      left = left_low node s ∙ ap (λ p. node * p) (sym e);
      middle = left_high node s ∙ ap (λ p. node * p + s) (sym e);
      right = right_high node s ∙ (sym whole ∙ ap (λ p. (node + 1) * p) (sym e));
      whole = ap (λ p. (node + 1) * p) e ∙ (whole ∙ (double (node * (s * 2)) s ∙ ap (λ p. node * p + s + s) (sym e)));
      some = pow_pos (h - 1);
    }
  where
    double : (a s : ℕ) → a + s * 2 ≡ a + s + s
    double a s = omega arith

-- a node that has leaves below it is an inner one
pub is_inner : (node h width : ℕ) → (h ≡ 0 → ⊥) → (node + 1) * 2 ^ h ≤ width + width → node < width
is_inner node h width ne within =
    let e : 2 ^ h ≡ 2 ^ (h - 1) * 2 = pow_halves h ne in
    let less : node + 1 ≤ (node + 1) * 2 ^ (h - 1) = le_times (node + 1) (2 ^ (h - 1)) (pow_pos (h - 1)) in
    let twice : (node + 1) * 2 ^ h ≡ (node + 1) * 2 ^ (h - 1) * 2 = ap (λ p. (node + 1) * p) e ∙ sym (mul_assoc (node + 1) (2 ^ (h - 1)) 2) in
    omega arith

-- no leaf below a node is less than it
pub leaf_not_less : (nodes : List ℕ) (width : ℕ) → HasLeast 0 width nodes → (h node i : ℕ) → 1 ≤ node → (node + 1) * 2 ^ h ≤ width + width → node * 2 ^ h ≤ i → i < (node + 1) * 2 ^ h → slice_index nodes node ≤ slice_index nodes i
leaf_not_less nodes width least zero node i some within low high =
    let one : 2 ^ 0 ≡ 1 = refl in
    let e : i ≡ node = omega (arith, mul-one node, mul-one (node + 1)) in
    rw e (omega arith)
leaf_not_less nodes width least (suc h) node i some within low high =
    let ne : suc h ≡ 0 → ⊥ = λ e. omega arith in
    let half = halves node (suc h) ne in
    let down : suc h - 1 ≡ h = omega arith in
    let inner : node < width = is_inner node (suc h) width ne within in
    let here = least node some inner (λ e. omega arith) in
    let left = rw down at half.left in
    let middle = rw down at half.middle in
    let right = rw down at half.right in
    let whole = rw down at half.whole in
    elim (cases_lt i ((2 * node + 1) * 2 ^ h)) [
      | inl before ↦ (let below = leaf_not_less nodes width least h (2 * node) i (omega arith) (omega arith) (omega arith) before in omega arith)
      | inr after ↦ (let below = leaf_not_less nodes width least h (2 * node + 1) i (omega arith) (omega arith) after (omega arith) in omega arith)
    ]

-- leaves that all lie before the place from which they count
pub all_before : (nodes : List ℕ) (node h from at : ℕ) → node < from / 2 ^ h → NoLeaf nodes (node * 2 ^ h) ((node + 1) * 2 ^ h) from at
all_before nodes node h from at past = λ i low high not_before.
    let whole : (node + 1) * 2 ^ h ≤ from = (le-div_iff_mul-le {k = 2 ^ h} {x = node + 1} {y = from} (pow_pos h)).0 (omega arith) in
    absurd (omega arith)

-- leaves that are all too late
pub all_late : (nodes : List ℕ) (width node h from at : ℕ) → HasLeast 0 width nodes → 1 ≤ node → (node + 1) * 2 ^ h ≤ width + width → at < slice_index nodes node → NoLeaf nodes (node * 2 ^ h) ((node + 1) * 2 ^ h) from at
all_late nodes width node h from at least some within late = λ i low high not_before.
    let below = leaf_not_less nodes width least h node i some within low high in omega arith

pub left_leaf : (nodes : List ℕ) (node h from at leaf : ℕ) → (h ≡ 0 → ⊥) → IsFirstLeaf nodes (2 * node * 2 ^ (h - 1)) ((2 * node + 1) * 2 ^ (h - 1)) from at leaf → IsFirstLeaf nodes (node * 2 ^ h) ((node + 1) * 2 ^ h) from at leaf
left_leaf nodes node h from at leaf ne f =
    let half = halves node h ne in
    let low = f.not_below in
    let high = f.below in
    record {
      not_below = omega arith;
      below = omega arith;
      not_before = f.not_before;
      reached = f.reached;
      first = λ i above from_on before. (let l : 2 * node * 2 ^ (h - 1) ≤ i = omega arith in f.first i l from_on before);
    }

pub right_leaf : (nodes : List ℕ) (node h from at leaf : ℕ) → (h ≡ 0 → ⊥) → NoLeaf nodes (2 * node * 2 ^ (h - 1)) ((2 * node + 1) * 2 ^ (h - 1)) from at → IsFirstLeaf nodes ((2 * node + 1) * 2 ^ (h - 1)) ((2 * node + 1 + 1) * 2 ^ (h - 1)) from at leaf → IsFirstLeaf nodes (node * 2 ^ h) ((node + 1) * 2 ^ h) from at leaf
right_leaf nodes node h from at leaf ne none f =
    let half = halves node h ne in
    let low = f.not_below in
    let high = f.below in
    record {
      not_below = omega arith;
      below = omega arith;
      not_before = f.not_before;
      reached = f.reached;
      first = λ i above from_on before. elim (cases_lt i ((2 * node + 1) * 2 ^ (h - 1))) [
        | inl left ↦ (let l : 2 * node * 2 ^ (h - 1) ≤ i = omega arith in none i l left from_on)
        | inr right ↦ f.first i right from_on before
      ];
    }

pub no_leaf : (nodes : List ℕ) (node h from at : ℕ) → (h ≡ 0 → ⊥) → NoLeaf nodes (2 * node * 2 ^ (h - 1)) ((2 * node + 1) * 2 ^ (h - 1)) from at → NoLeaf nodes ((2 * node + 1) * 2 ^ (h - 1)) ((2 * node + 1 + 1) * 2 ^ (h - 1)) from at → NoLeaf nodes (node * 2 ^ h) ((node + 1) * 2 ^ h) from at
no_leaf nodes node h from at ne left right = λ i low high from_on.
    let half = halves node h ne in
    elim (cases_lt i ((2 * node + 1) * 2 ^ (h - 1))) [
      | inl before ↦ (let l : 2 * node * 2 ^ (h - 1) ≤ i = omega arith in left i l before from_on)
      | inr after ↦ (let r : i < (2 * node + 1 + 1) * 2 ^ (h - 1) = omega arith in right i after r from_on)
    ]

pub shifted : (h : ℕ) → h ≤ 33 → 1 * 2 ^ h % 2 ^ 64 ≡ 2 ^ h
shifted h low = one_shl h 64 (omega arith)

pub few_leaves : (h : ℕ) → h ≤ 33 → 2 ^ h ≤ 2 ^ 33
few_leaves h low = pow_mono {i = h} {j = 33} low

-- the moments that a tree's leaves hold
pub leaves_are : (nodes moments : List ℕ) (width : ℕ) → width + length moments ≤ length nodes → ((i : ℕ) → i < length moments → slice_index nodes (width + i) ≡ slice_index moments i) → take (length moments) (drop width nodes) ≡ moments
leaves_are nodes moments width within same =
    let n = length moments in
    let leaves = drop width nodes in
    let sized : length (take n leaves) ≡ n = length-take n leaves ∙ omega (arith, length-drop {A = ℕ} width nodes) in
    ext_get_or 0 (take n leaves) moments sized
    (λ i low. (let l : i < n = omega arith in get_or-take n leaves i 0 l ∙ (get_or-drop width nodes i 0 ∙ same i l)))

-- a write of one leaf leaves the others
pub others_stay : (nodes old : List ℕ) (width place moment i : ℕ) → drop width nodes ≡ set (drop width old) place moment → width ≤ i → (i ≡ width + place → ⊥) → slice_index nodes i ≡ slice_index old i
others_stay nodes old width place moment i leaves low other =
    let k = i - width in
    let e : width + k ≡ i = omega arith in
    let apart : k ≢ place = λ same. other (omega arith) in
    ap (λ j. slice_index nodes j) (sym e)
    ∙ (sym (get_or-drop width nodes k 0) ∙ (ap (λ xs. get_or xs k 0) leaves ∙ (get_or-set_other (drop width old) place k moment 0 apart ∙ (get_or-drop width old k 0 ∙ ap (λ j. slice_index old j) e))))
