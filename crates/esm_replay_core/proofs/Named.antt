-- One more record that came is one more named one, or none more.
use Rattle.std.proofs.Common.{◌≡◌, ℕ, zero, suc, ◌+◌, ◌<◌, ◌≤◌, Bool, true, false, cond, ◌||◌, List, [], ◌∷◌, ◌++◌, length, take, refl, sym, ap, ap₂, ◌∙◌, subst, inl, inr, arith, Option, Some}
use Rattle.std.specs.Prelude.{◌==◌, ◌&&◌, not, nat_lt, filter, map, slice_get, option_map, unwrap_or, if◌then◌else◌}
use Rattle.std.specs.List.{list_any}
use Rattle.std.proofs.lemmas.Bool.{cases_Bool, eqb-true, eq-eqb, ltb-true, lt-ltb, false_from_ne_true}
use Rattle.std.proofs.lemmas.List.{length-append, length-take-le, take_all}
use Rattle.std.proofs.lemmas.List.Elements.{filter-append}
use Rattle.esm_model.specs.Records.{Record}
use Rattle.esm_model.specs.Setting.{record_at}
use Rattle.esm_model.specs.Fates.{below}
use Rattle.esm_journal_state.specs.SaidLists.{SaidLists, is_replay_told}
use Rattle.esm_replay_model.specs.declared.range.Range.{Range}
use Rattle.esm_replay_model.specs.ReplaySetting.{ReplaySetting, is_named, is_given_up, is_in_ranges, is_found_replayed, named_places}
use Rattle.esm_replay_model.specs.Pieces.{ReplayPiece, ahead, inserted, rising_shards, named_pieces}
use Rattle.esm_replay_model.specs.ReplayReport.{records_in, named_count}
use Rattle.esm_replay_model.proofs.Counting.{Above, Rising}
use Rattle.esm_replay.specs.Records.{of_shard, shards_of, stream_of, is_told_failed, names}
use Rattle.esm_replay.proofs.Gathering.{none_of_shard}
use Rattle.esm_replay.proofs.FirstPieces.{rising_records}
use Rattle.esm_replay_core.specs.declared.decisions.Opened.{Opened}
use Rattle.esm_replay_core.specs.Kept.{setting_for}
use Rattle.esm_replay_core.proofs.Standing.{records_there, own_shard}

abbrev pub one : Bool → ℕ
one passes = if passes then 1 else 0

-- of records of one shard, the first of which stands at the place
abbrev row : SaidLists → List Range → ℕ → List Record → ℕ
row told ranges k [] = 0
row told ranges k (r ∷ rs) = one (names told ranges r k) + row told ranges (suc k) rs

abbrev bumped : ℕ → (ℕ → ℕ) → ℕ → ℕ
bumped n c q = cond (n == q) (suc (c q)) (c q)

-- of records in order, where so many of each shard came before
abbrev walk : SaidLists → List Range → (ℕ → ℕ) → List Record → ℕ
walk told ranges c [] = 0
walk told ranges c (r ∷ rs) = one (names told ranges r (c r.shard)) + walk told ranges (bumped r.shard c) rs

-- by shard
abbrev total : SaidLists → List Range → (ℕ → ℕ) → List ℕ → List Record → ℕ
total told ranges c [] rs = 0
total told ranges c (n ∷ ns) rs = row told ranges (c n) (of_shard n rs) + total told ranges c ns rs

-- one more at the end

walk_more : (told : SaidLists) (ranges : List Range) (c : ℕ → ℕ) (rs : List Record) (r : Record)
    → walk told ranges c (rs ++ r ∷ []) ≡ walk told ranges c rs + one (names told ranges r (c r.shard + length (of_shard r.shard rs)))
walk_more told ranges c [] r =
    let e : c r.shard ≡ c r.shard + 0 = omega arith in
    let f : one (names told ranges r (c r.shard)) ≡ one (names told ranges r (c r.shard + 0)) = ap (λ (k : ℕ). one (names told ranges r k)) e in
    omega (arith, f)
walk_more told ranges c (q ∷ rs) r =
    let behind : walk told ranges (bumped q.shard c) (rs ++ r ∷ []) ≡ walk told ranges (bumped q.shard c) rs + one (names told ranges r (bumped q.shard c r.shard + length (of_shard r.shard rs))) = walk_more told ranges (bumped q.shard c) rs r in
    let at : bumped q.shard c r.shard + length (of_shard r.shard rs) ≡ c r.shard + length (of_shard r.shard (q ∷ rs)) =
    elim (cases_Bool (q.shard == r.shard)) [ inl same ↦ rw same (omega arith) | inr other ↦ rw other refl ] in
    let f : one (names told ranges r (bumped q.shard c r.shard + length (of_shard r.shard rs))) ≡ one (names told ranges r (c r.shard + length (of_shard r.shard (q ∷ rs)))) = ap (λ (k : ℕ). one (names told ranges r k)) at in
    omega (arith, behind, f)

row_more : (told : SaidLists) (ranges : List Range) (k : ℕ) (rs : List Record) (r : Record) → row told ranges k (rs ++ r ∷ []) ≡ row told ranges k rs + one (names told ranges r (k + length rs))
row_more told ranges k [] r =
    let e : k ≡ k + 0 = omega arith in
    let f : one (names told ranges r k) ≡ one (names told ranges r (k + 0)) = ap (λ (j : ℕ). one (names told ranges r j)) e in
    omega (arith, f)
row_more told ranges k (q ∷ rs) r =
    let behind : row told ranges (suc k) (rs ++ r ∷ []) ≡ row told ranges (suc k) rs + one (names told ranges r (suc k + length rs)) = row_more told ranges (suc k) rs r in
    let at : suc k + length rs ≡ k + length (q ∷ rs) = omega arith in
    let f : one (names told ranges r (suc k + length rs)) ≡ one (names told ranges r (k + length (q ∷ rs))) = ap (λ (j : ℕ). one (names told ranges r j)) at in
    omega (arith, behind, f)

-- by shard it is the same

absent : (m : ℕ) (ns : List ℕ) → Above m ns → list_any (λ k. k == m) ns ≡ false
absent m [] above = refl
absent m (n ∷ ns) above =
    let less : m < n = above.0 in
    let other : (n == m) ≡ false = false_from_ne_true (n == m) (λ same. let e : n ≡ m = eqb-true n m same in absurd (omega arith)) in
    rw other (absent m ns above.1)

apart : (told : SaidLists) (ranges : List Range) (c : ℕ → ℕ) (r : Record) (rs : List Record) (ns : List ℕ) → Above r.shard ns → total told ranges c ns (r ∷ rs) ≡ total told ranges (bumped r.shard c) ns rs
apart told ranges c r rs [] above = refl
apart told ranges c r rs (n ∷ ns) above =
    let less : r.shard < n = above.0 in
    let other : (r.shard == n) ≡ false = false_from_ne_true (r.shard == n) (λ same. let e : r.shard ≡ n = eqb-true r.shard n same in absurd (omega arith)) in
    let here : row told ranges (c n) (of_shard n (r ∷ rs)) ≡ row told ranges (bumped r.shard c n) (of_shard n rs) = rw other refl in
    ap₂ (λ (a b : ℕ). a + b) here (apart told ranges c r rs ns above.1)

higher : (m n : ℕ) (ns : List ℕ) → m < n → Above n ns → Above m ns
higher m n [] l above = tt
higher m n (k ∷ ns) l above = ((let up : n < k = above.0 in omega arith), higher m n ns l above.1)

first_row : (told : SaidLists) (ranges : List Range) (c : ℕ → ℕ) (r : Record) (rs : List Record) → row told ranges (c r.shard) (of_shard r.shard (r ∷ rs)) ≡ one (names told ranges r (c r.shard)) + row told ranges (bumped r.shard c r.shard) (of_shard r.shard rs)
first_row told ranges c r rs = (let same : (r.shard == r.shard) ≡ true = eq-eqb r.shard r.shard refl in rw same refl)

none_row : (told : SaidLists) (ranges : List Range) (k : ℕ) (rs : List Record) → rs ≡ [] → row told ranges k rs ≡ 0
none_row told ranges k rs none = ap (row told ranges k) none

sum_first : (a b d x y : ℕ) → a ≡ b + d → d ≡ 0 → x ≡ y → a + x ≡ b + y
sum_first a b d x y f e g = omega arith

sum_rest : (a b x y o : ℕ) → a ≡ b → x ≡ o + y → a + x ≡ o + (b + y)
sum_rest a b x y o f g = omega arith

with_one : (told : SaidLists) (ranges : List Range) (c : ℕ → ℕ) (r : Record) (rs : List Record) (ns : List ℕ) → Rising ns → (list_any (λ k. k == r.shard) ns ≡ false → of_shard r.shard rs ≡ [])
    → total told ranges c (inserted r.shard ns) (r ∷ rs) ≡ one (names told ranges r (c r.shard)) + total told ranges (bumped r.shard c) ns rs
with_one told ranges c r rs [] rising none =
    let f = first_row told ranges c r rs in
    let e = none_row told ranges (bumped r.shard c r.shard) (of_shard r.shard rs) (none refl) in
    omega (arith, f, e)
with_one told ranges c r rs (n ∷ ns) rising none =
    elim (cases_Bool (r.shard == n)) [
      | inl same ↦ (
          let e : r.shard ≡ n = eqb-true r.shard n same in
          let above : Above r.shard ns = subst (λ (k : ℕ). Above k ns) (sym e) rising.0 in
          let put : inserted r.shard (n ∷ ns) ≡ n ∷ ns = rw same refl in
          let f = first_row told ranges c r rs in
          let g : total told ranges c ns (r ∷ rs) ≡ total told ranges (bumped r.shard c) ns rs = apart told ranges c r rs ns above in
          let here : row told ranges (c r.shard) (of_shard r.shard (r ∷ rs)) + total told ranges c ns (r ∷ rs) ≡ one (names told ranges r (c r.shard)) + (row told ranges (bumped r.shard c r.shard) (of_shard r.shard rs) + total told ranges (bumped r.shard c) ns rs) = omega (arith, f, g) in
          ap (λ (ms : List ℕ). total told ranges c ms (r ∷ rs)) put
          ∙ subst (λ (k : ℕ). row told ranges (c k) (of_shard k (r ∷ rs)) + total told ranges c ns (r ∷ rs) ≡ one (names told ranges r (c r.shard)) + (row told ranges (bumped r.shard c k) (of_shard k rs) + total told ranges (bumped r.shard c) ns rs)) e here)
      | inr other ↦ elim (cases_Bool (nat_lt r.shard n)) [
        | inl less ↦ (
            let l : r.shard < n = ltb-true r.shard n less in
            let above : Above r.shard (n ∷ ns) = (l, higher r.shard n ns l rising.0) in
            let put : inserted r.shard (n ∷ ns) ≡ r.shard ∷ n ∷ ns = rw (other, less) refl in
            let f = first_row told ranges c r rs in
            let e = none_row told ranges (bumped r.shard c r.shard) (of_shard r.shard rs) (none (absent r.shard (n ∷ ns) above)) in
            let g : total told ranges c (n ∷ ns) (r ∷ rs) ≡ total told ranges (bumped r.shard c) (n ∷ ns) rs = apart told ranges c r rs (n ∷ ns) above in
            ap (λ (ms : List ℕ). total told ranges c ms (r ∷ rs)) put ∙ sum_first _ _ _ _ _ f e g)
        | inr more ↦ (
            let flipped : (n == r.shard) ≡ false = false_from_ne_true (n == r.shard) (λ same. let clash : (r.shard == n) ≡ true = eq-eqb r.shard n (sym (eqb-true n r.shard same)) in let both : true ≡ false = sym clash ∙ other in absurd (cc)) in
            let put : inserted r.shard (n ∷ ns) ≡ n ∷ inserted r.shard ns = rw (other, more) refl in
            let here : row told ranges (c n) (of_shard n (r ∷ rs)) ≡ row told ranges (bumped r.shard c n) (of_shard n rs) = rw other refl in
            let behind : total told ranges c (inserted r.shard ns) (r ∷ rs) ≡ one (names told ranges r (c r.shard)) + total told ranges (bumped r.shard c) ns rs = with_one told ranges c r rs ns rising.1 (λ out. none (ap (λ (b : Bool). b || list_any (λ k. k == r.shard) ns) flipped ∙ out)) in
            ap (λ (ms : List ℕ). total told ranges c ms (r ∷ rs)) put ∙ sum_rest _ _ _ _ _ here behind)
      ]
    ]

by_shard : (told : SaidLists) (ranges : List Range) (c : ℕ → ℕ) (rs : List Record) → total told ranges c (shards_of rs) rs ≡ walk told ranges c rs
by_shard told ranges c [] = refl
by_shard told ranges c (r ∷ rs) =
    with_one told ranges c r rs (shards_of rs) (rising_records rs) (λ out. none_of_shard r.shard rs out)
    ∙ ap (λ (k : ℕ). one (names told ranges r (c r.shard)) + k) (by_shard told ranges (bumped r.shard c) rs)

-- of one shard it is the number of its named places

found_at : (rs : List Record) (k : ℕ) → k < length rs → (r : Record) × (slice_get rs k ≡ Some r) × (take (suc k) rs ≡ take k rs ++ r ∷ [])
found_at [] k l = absurd (omega arith)
found_at (r ∷ rs) zero l = (r, refl, refl)
found_at (r ∷ rs) (suc k) l = (let f = found_at rs k (omega arith) in (f.0, f.1, ap (λ (xs : List Record). r ∷ xs) f.2))

one_more : (p : ℕ → Bool) (k : ℕ) → length (filter p (below (suc k))) ≡ length (filter p (below k)) + one (p k)
one_more p k =
    let both : filter p (below k ++ k ∷ []) ≡ filter p (below k) ++ filter p (k ∷ []) = filter-append p (below k) (k ∷ []) in
    ap (λ (xs : List ℕ). length xs) both ∙ length-append (filter p (below k)) (filter p (k ∷ [])) ∙ ap (λ (j : ℕ). length (filter p (below k)) + j) (last p k)
  where
    last : (p : ℕ → Bool) (k : ℕ) → length (filter p (k ∷ [])) ≡ one (p k)
    last p k = elim (cases_Bool (p k)) [ inl is ↦ rw is refl | inr fails ↦ rw fails refl ]

named_there : (o : Opened) (all : List Record) (n k : ℕ) (r : Record) → record_at (setting_for o all).base n k ≡ Some r → r.shard ≡ n → is_named (setting_for o all) n k ≡ names o.said o.ranges r k
named_there o all n k r there shard =
    let s : ReplaySetting = setting_for o all in
    ap (λ (x : Option Record). is_given_up s n k && (unwrap_or (option_map (λ (y : Record). is_in_ranges s.ranges n y.seq) x) false && not (is_found_replayed s n k))) there
    ∙ ap (λ (m : ℕ). is_told_failed o.said m k && (is_in_ranges o.ranges m r.seq && not (is_replay_told o.said m k))) (sym shard)

first_places : (o : Opened) (all : List Record) (n k : ℕ) → k ≤ length (of_shard n all) → length (filter (is_named (setting_for o all) n) (below k)) ≡ row o.said o.ranges 0 (take k (of_shard n all))
first_places o all n zero l = refl
first_places o all n (suc k) l =
    let own : List Record = of_shard n all in
    let f : (r : Record) × (slice_get own k ≡ Some r) × (take (suc k) own ≡ take k own ++ r ∷ []) = found_at own k (omega arith) in
    let r : Record = f.0 in
    let before : length (filter (is_named (setting_for o all) n) (below k)) ≡ row o.said o.ranges 0 (take k own) = first_places o all n k (omega arith) in
    let there : record_at (setting_for o all).base n k ≡ Some r = ap (λ (xs : List Record). slice_get xs k) (records_there o all n) ∙ f.1 in
    let test : is_named (setting_for o all) n k ≡ names o.said o.ranges r k = named_there o all n k r there (own_shard n all k r f.1) in
    let taken : length (take k own) ≡ k = length-take-le k own (omega arith) in
    let long : k ≡ 0 + length (take k own) = omega (arith, taken) in
    one_more (is_named (setting_for o all) n) k
    ∙ ap₂ (λ (a b : ℕ). a + b) before (ap one test)
    ∙ ap (λ (j : ℕ). row o.said o.ranges 0 (take k own) + one (names o.said o.ranges r j)) long
    ∙ sym (row_more o.said o.ranges 0 (take k own) r)
    ∙ sym (ap (row o.said o.ranges 0) f.2)

named_row : (o : Opened) (all : List Record) (n : ℕ) → length (named_places (setting_for o all) n) ≡ row o.said o.ranges 0 (of_shard n all)
named_row o all n =
    let own : List Record = of_shard n all in
    ap (λ (xs : List Record). length (filter (is_named (setting_for o all) n) (below (length xs)))) (records_there o all n)
    ∙ first_places o all n (length own) (omega arith)
    ∙ ap (row o.said o.ranges 0) (take_all (length own) own (omega arith))

-- the whole

in_ahead : (n : ℕ) (places : List ℕ) (others : List ReplayPiece) → records_in (ahead n places others) ≡ length places + records_in others
in_ahead n [] others = omega arith
in_ahead n (i ∷ places) others = refl

in_pieces : (o : Opened) (all : List Record) (ns : List ℕ) → records_in (named_pieces (setting_for o all) ns) ≡ total o.said o.ranges (λ n. 0) ns all
in_pieces o all [] = refl
in_pieces o all (n ∷ ns) =
    in_ahead n (named_places (setting_for o all) n) (named_pieces (setting_for o all) ns)
    ∙ ap₂ (λ (a b : ℕ). a + b) (named_row o all n) (in_pieces o all ns)

rising_again : (rs : List Record) (ns : List ℕ) → Rising ns → rising_shards (map (stream_of rs) ns) ≡ ns
rising_again rs [] rising = refl
rising_again rs (n ∷ ns) rising = ap (inserted n) (rising_again rs ns rising.1) ∙ first n ns rising.0
  where
    first : (n : ℕ) (ns : List ℕ) → Above n ns → inserted n ns ≡ n ∷ ns
    first n [] above = refl
    first n (m ∷ ms) above =
        let less : n < m = above.0 in
        let other : (n == m) ≡ false = false_from_ne_true (n == m) (λ same. let e : n ≡ m = eqb-true n m same in absurd (omega arith)) in
        rw other (rw (lt-ltb n m less) refl)

named_is : (o : Opened) (all : List Record) → named_count (setting_for o all) ≡ walk o.said o.ranges (λ n. 0) all
named_is o all =
    ap (λ (ns : List ℕ). records_in (named_pieces (setting_for o all) ns)) (rising_again all (shards_of all) (rising_records all))
    ∙ in_pieces o all (shards_of all)
    ∙ by_shard o.said o.ranges (λ n. 0) all

pub named_more : (o : Opened) (rs : List Record) (r : Record) → named_count (setting_for o (rs ++ r ∷ [])) ≡ named_count (setting_for o rs) + one (names o.said o.ranges r (length (of_shard r.shard rs)))
named_more o rs r =
    let e : 0 + length (of_shard r.shard rs) ≡ length (of_shard r.shard rs) = omega arith in
    named_is o (rs ++ r ∷ [])
    ∙ walk_more o.said o.ranges (λ n. 0) rs r
    ∙ ap₂ (λ (a b : ℕ). a + b) (sym (named_is o rs)) (ap (λ (k : ℕ). one (names o.said o.ranges r k)) e)
