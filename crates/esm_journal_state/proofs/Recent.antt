-- Fates that wait in a list, and places above all that have one.
use Rattle.std.proofs.Common.{◌≡◌, ℕ, suc, ◌-◌, ◌<◌, ◌≤◌, ◌&&◌, ◌||◌, not, Bool, true, false, cond, eqb, List, [], ◌∷◌, ◌++◌, length, get_or, drop, Option, Some, None, refl, sym, ap, subst, ◌∙◌, ◌⊎◌, ◌+◌, add-one, drop-cons, append_assoc, arith, inl, inr}
use Rattle.std.specs.Prelude.{is_some, option_map, nat_le, nat_lt}
use Rattle.std.specs.Option.{option_or}
use Rattle.std.specs.Map.{update, update_all}
use Rattle.std.specs.Ordering.{nat_cmp, eq_by_cmp, is_eq}
use Rattle.std.specs.BTreeMap as map
use Rattle.std.specs.BTreeMap.{is_at}
use Rattle.std.proofs.lemmas.Bool.{and_parts, or_parts, cases_Bool, leb-true, ltb-true, ltb-false, lt-ltb, eq-eqb, eqb-true, ne_eqb}
use Rattle.std.proofs.lemmas.List.{append-nil}
use Rattle.std.proofs.lemmas.List.Sums.{fold-append}
use Rattle.esm_model.specs.Entries.{holds}
use Rattle.esm_model.specs.declared.entry.Fate.{Fate}
use Rattle.esm_model.specs.declared.entry.WindowState.{WindowState}
use Rattle.esm_journal_record.specs.declared.said.Said.{Said}
use Rattle.esm_journal_record.specs.declared.said.Said.TheVariants.{Fates, Tried, Replayed}
use Rattle.esm_journal_record.specs.Payload.{rises_from, rises}
use Rattle.esm_journal_state.specs.declared.kept.KeptFate.{KeptFate}
use Rattle.esm_journal_state.specs.declared.table.Table.{Table}
use Rattle.esm_journal_state.specs.declared.growing.Growing.{Growing}
use Rattle.esm_journal_state.specs.SaidLists.{pair_cmp}
use Rattle.esm_journal_state.specs.Table.{known_in}
use Rattle.esm_journal_state.specs.Growing.{fates_named, fate_with, is_above, IsGrown, Knows}
use Rattle.esm_journal_state.specs.Meaning.{text_named, only_at, fate_kept, fate_said, fate_text, tries_text, Known, known, differs, has_failed, any_named, is_spent, is_no_replay, is_bad}
use Rattle.esm_journal_state.proofs.Pairs.{is_eq-nat, same_pair, option_map-cond}
use Rattle.esm_journal_state.proofs.Fresh.{AreBetween, bounds, last_place, empty_lookup}

-- places that are not named

unnamed : (places : List ℕ) (texts : List (List ℕ)) (i : ℕ) → holds places i ≡ false → text_named places texts i ≡ None
unnamed [] texts i apart = refl
unnamed (place ∷ places) [] i apart = refl
unnamed (place ∷ places) (text ∷ texts) i apart =
    let parts = or_parts (eqb place i) (holds places i) apart in
    ap (λ b. cond b (Some text) (text_named places texts i)) parts.0 ∙ unnamed places texts i parts.1

below_all : (places : List ℕ) (low i : ℕ) → i < low → rises_from low places ≡ true → holds places i ≡ false
below_all [] low i lt rising = refl
below_all (place ∷ places) low i lt rising =
    let parts = and_parts (nat_le low place) (rises_from (suc place) places) rising in
    let here : low ≤ place = leb-true low place parts.0 in
    ap (λ b. b || holds places i) (ne_eqb place i (λ e. omega arith)) ∙ below_all places (suc place) i (omega arith) parts.1

above_all : (low high : ℕ) (places : List ℕ) (i : ℕ) → AreBetween low high places → high < i → holds places i ≡ false
above_all low high [] i within lt = refl
above_all low high (place ∷ places) i within lt =
    ap (λ b. b || holds places i) (ne_eqb place i (λ e. omega (arith, within.0.1))) ∙ above_all low high places i within.1 lt

-- above the last of places that rise is none of them
pub above_last : (places : List ℕ) (i : ℕ) → rises places ≡ true → get_or places (length places - 1) 0 < i → holds places i ≡ false
above_last [] i rising lt = refl
above_last (n ∷ ns) i rising lt =
    above_all n (get_or (n ∷ ns) (length ns) 0) (n ∷ ns) i (bounds n ns rising) (subst (λ k. get_or (n ∷ ns) k 0 < i) (last_place n ns) lt)

-- below the first of them neither
first_above : (places : List ℕ) (i : ℕ) → 1 ≤ length places → rises places ≡ true → holds places i ≡ true → get_or places 0 0 ≤ i
first_above [] i some rising held = absurd (omega arith)
first_above (n ∷ ns) i some rising held =
    elim (cases_Bool (nat_lt i n)) [
      | inl lt ↦
          (let after = (and_parts (nat_le 0 n) (rises_from (suc n) ns) rising).1 in
          let below : i < n = ltb-true i n lt in
          let none : holds (n ∷ ns) i ≡ false = ap (λ b. b || holds ns i) (ne_eqb n i (λ e. omega arith)) ∙ below_all ns (suc n) i (omega arith) after in
          absurd cc)
      | inr ge ↦ ltb-false i n ge
    ]

-- tops

higher : (top : Option ℕ) (last i : ℕ) → is_above top last ≡ true → last < i → is_above top i ≡ true
higher None last i above lt = refl
higher (Some top) last i above lt = lt-ltb top i (omega (arith, ltb-true top last above))

at_least : (top : Option ℕ) (first i : ℕ) → is_above top first ≡ true → first ≤ i → is_above top i ≡ true
at_least None first i above le = refl
at_least (Some top) first i above le = lt-ltb top i (omega (arith, ltb-true top first above))

-- where the last place is no new top
pub passed_before : (top : Option ℕ) (places : List ℕ) (i : ℕ) → rises places ≡ true → is_above top (get_or places (length places - 1) 0) ≡ false → is_above top i ≡ true → holds places i ≡ false
passed_before None places i rising low above = absurd cc
passed_before (Some top) places i rising low above =
    above_last places i rising (omega (arith, ltb-false top (get_or places (length places - 1) 0) low, ltb-true top i above))

-- where it is
pub passed_now : (top : Option ℕ) (places : List ℕ) (last i : ℕ) → rises places ≡ true → last ≡ get_or places (length places - 1) 0 → top ≡ Some last → is_above top i ≡ true → holds places i ≡ false
passed_now top places last i rising is now above =
    let over : nat_lt last i ≡ true = sym (ap (λ o. is_above o i) now) ∙ above in
    above_last places i rising (omega (arith, ltb-true last i over, is))

pub kept_above : (before after : ℕ → Option ℕ) (shard last : ℕ) → ((n : ℕ) → after n ≡ cond (is_eq (nat_cmp shard n)) (Some last) (before n)) → is_above (before shard) last ≡ true
    → (n i : ℕ) → is_above (after n) i ≡ true → is_above (before n) i ≡ true
kept_above before after shard last step above n i over =
    let now : after n ≡ cond (eqb shard n) (Some last) (before n) = step n ∙ ap (λ b. cond b (Some last) (before n)) (is_eq-nat shard n) in
    elim (cases_Bool (eqb shard n)) [
      | inl same ↦
          (let top : after n ≡ Some last = now ∙ ap (λ b. cond b (Some last) (before n)) same in
          let lt : last < i = ltb-true last i (sym (ap (λ o. is_above o i) top) ∙ over) in
          higher (before n) last i (subst (λ m. is_above (before m) last ≡ true) (eqb-true shard n same) above) lt)
      | inr apart ↦ ap (λ o. is_above o i) (sym (now ∙ ap (λ b. cond b (Some last) (before n)) apart)) ∙ over
    ]

-- fates that are pushed

no_texts : (shard : ℕ) (fate : Fate) (places : List ℕ) → fates_named shard fate places [] ≡ []
no_texts shard fate [] = refl
no_texts shard fate (place ∷ places) = refl

one_pushed : (shard : ℕ) (fate : Fate) (places : List ℕ) (index : ℕ) (text : List ℕ) (rest : List (List ℕ)) → index < length places
    → fates_named shard fate (drop index places) (text ∷ rest) ≡ ((shard, get_or places index 0), fate_kept fate text) ∷ fates_named shard fate (drop (index + 1) places) rest
one_pushed shard fate places index text rest p = rw (drop-cons places index 0, add-one) refl

pub pushed_more : (shard : ℕ) (fate : Fate) (places : List ℕ) (index : ℕ) (text : List ℕ) (items rest : List (List ℕ)) (recent more whole : List ((ℕ × ℕ) × KeptFate)) → index < length places
    → items ≡ text ∷ rest → more ≡ recent ++ ((shard, get_or places index 0), fate_kept fate text) ∷ []
    → recent ++ fates_named shard fate (drop index places) items ≡ whole → more ++ fates_named shard fate (drop (index + 1) places) rest ≡ whole
pushed_more shard fate places index text items rest recent more whole p step is so_far =
    let x : (ℕ × ℕ) × KeptFate = ((shard, get_or places index 0), fate_kept fate text) in
    let others = fates_named shard fate (drop (index + 1) places) rest in
    ap (λ es. es ++ others) is
    ∙ append_assoc recent (x ∷ []) others
    ∙ ap (λ es. recent ++ es) (sym (ap (fates_named shard fate (drop index places)) step ∙ one_pushed shard fate places index text rest p))
    ∙ so_far

pub all_pushed : (shard : ℕ) (fate : Fate) (places : List ℕ) (items : List (List ℕ)) (recent whole : List ((ℕ × ℕ) × KeptFate)) → items ≡ []
    → recent ++ fates_named shard fate places items ≡ whole → recent ≡ whole
all_pushed shard fate places items recent whole none so_far =
    sym (append-nil recent) ∙ ap (λ es. recent ++ es) (sym (ap (fates_named shard fate places) none ∙ no_texts shard fate places)) ∙ so_far

pub no_item : {X : Type 0} (xs : List X) → length xs ≡ 0 → xs ≡ []
no_item [] none = refl
no_item (x ∷ xs) none = absurd (omega (arith, none))

-- fates that go into the map

pub put_more : (fates new : map.BTreeMap (ℕ × ℕ) KeptFate) (x : (ℕ × ℕ) × KeptFate) (items rest : List ((ℕ × ℕ) × KeptFate)) (n i : ℕ) (whole : Option KeptFate)
    → ((q : ℕ × ℕ) → map.get pair_cmp new q ≡ cond (is_eq (pair_cmp x.0 q)) (Some x.1) (map.get pair_cmp fates q)) → items ≡ x ∷ rest
    → fate_with fates items n i ≡ whole → fate_with new rest n i ≡ whole
put_more fates new x items rest n i whole step is so_far =
    let moved : fate_with new rest n i ≡ fate_with fates (x ∷ rest) n i = λ k. update_all (eq_by_cmp pair_cmp) (λ q. step q k) rest (n, i) in
    moved ∙ sym (ap (λ es. fate_with fates es n i) is) ∙ so_far

pub put_at_once : (fates new : map.BTreeMap (ℕ × ℕ) KeptFate) (recent : List ((ℕ × ℕ) × KeptFate)) (n i : ℕ) → length fates.entries ≡ 0
    → map.get pair_cmp new (n, i) ≡ update_all (eq_by_cmp pair_cmp) (λ _. None) recent (n, i) → map.get pair_cmp new (n, i) ≡ fate_with fates recent n i
put_at_once fates new recent n i empty made =
    let nothing : (q : ℕ × ℕ) → None ≡ map.get pair_cmp fates q = λ q. sym (empty_lookup (is_at (pair_cmp q)) fates.entries empty) in
    made ∙ (λ k. update_all (eq_by_cmp pair_cmp) (λ q. nothing q k) recent (n, i))

-- fates of the list

none_at : {A : Type 0} (b : Bool) (before : Option A) → before ≡ option_or (only_at b None) before
none_at true before = refl
none_at false before = refl

last_put : {A : Type 0} (a b : Bool) (x : A) (others before : Option A) → (b ≡ true → others ≡ None)
    → option_or (only_at a others) (cond (a && b) (Some x) before) ≡ option_or (only_at a (cond b (Some x) others)) before
last_put true true x others before none = ap (λ o. option_or o (Some x)) (none refl)
last_put true false x others before none = refl
last_put false b x others before none = refl

last_wins : (shard : ℕ) (fate : Fate) (places : List ℕ) (texts : List (List ℕ)) (low : ℕ) → rises_from low places ≡ true → (g : ℕ × ℕ → Option KeptFate) (n i : ℕ)
    → update_all (eq_by_cmp pair_cmp) g (fates_named shard fate places texts) (n, i) ≡ option_or (only_at (eqb shard n) (option_map (fate_kept fate) (text_named places texts i))) (g (n, i))
last_wins shard fate [] texts low rising g n i = none_at (eqb shard n) (g (n, i))
last_wins shard fate (place ∷ places) [] low rising g n i = none_at (eqb shard n) (g (n, i))
last_wins shard fate (place ∷ places) (text ∷ texts) low rising g n i =
    let rest = (and_parts (nat_le low place) (rises_from (suc place) places) rising).1 in
    let kept = fate_kept fate text in
    let others = option_map (fate_kept fate) (text_named places texts i) in
    last_wins shard fate places texts (suc place) rest (update (eq_by_cmp pair_cmp) g (shard, place) (Some kept)) n i
    ∙ ap (λ b. option_or (only_at (eqb shard n) others) (cond b (Some kept) (g (n, i)))) (same_pair shard place n i)
    ∙ last_put (eqb shard n) (eqb place i) kept others (g (n, i)) (λ e. ap (option_map (fate_kept fate)) (unnamed places texts i (below_all places (suc place) i (omega (arith, eqb-true place i e)) rest)))
    ∙ ap (λ o. option_or (only_at (eqb shard n) o) (g (n, i))) (sym (option_map-cond (fate_kept fate) (eqb place i) text (text_named places texts i)))

-- the fates with those of one more payload
pub fates_more : (fates : map.BTreeMap (ℕ × ℕ) KeptFate) (recent more : List ((ℕ × ℕ) × KeptFate)) (shard : ℕ) (fate : Fate) (places : List ℕ) (texts : List (List ℕ)) (n i : ℕ)
    → rises places ≡ true → more ≡ recent ++ fates_named shard fate places texts
    → fate_with fates more n i ≡ option_or (only_at (eqb shard n) (option_map (fate_kept fate) (text_named places texts i))) (fate_with fates recent n i)
fates_more fates recent more shard fate places texts n i rising is =
    let step = λ (g : ℕ × ℕ → Option KeptFate) (p : (ℕ × ℕ) × KeptFate). update (eq_by_cmp pair_cmp) g p.0 (Some p.1) in
    ap (λ es. fate_with fates es n i) is
    ∙ ap (λ (f : ℕ × ℕ → Option KeptFate). f (n, i)) (fold-append step (map.get pair_cmp fates) recent (fates_named shard fate places texts))
    ∙ last_wins shard fate places texts 0 rising (update_all (eq_by_cmp pair_cmp) (map.get pair_cmp fates) recent) n i

-- a place above them has none still
pub none_still : (shard n i : ℕ) (fate : Fate) (places : List ℕ) (texts : List (List ℕ)) (before : Option KeptFate) → (shard ≡ n → holds places i ≡ false) → before ≡ None
    → option_or (only_at (eqb shard n) (option_map (fate_kept fate) (text_named places texts i))) before ≡ None
none_still shard n i fate places texts before apart none =
    let named = option_map (fate_kept fate) (text_named places texts i) in
    elim (cases_Bool (eqb shard n)) [
      | inl same ↦
          ap (λ b. option_or (only_at b named) before) same
          ∙ ap (λ o. option_or (option_map (fate_kept fate) o) before) (unnamed places texts i (apart (eqb-true shard n same))) ∙ none
      | inr other ↦ ap (λ b. option_or (only_at b named) before) other ∙ none
    ]

put_some : {X : Type 0} (b : Bool) (x : X) (o : Option X) → is_some o ≡ true → is_some (cond b (Some x) o) ≡ true
put_some true x o some = refl
put_some false x o some = some

some_still : {K X : Type 0} (e : K → K → Bool) (f : K → Option X) (xs : List (K × X)) (q : K) → is_some (f q) ≡ true → is_some (update_all e f xs q) ≡ true
some_still e f [] q some = some
some_still e f (x ∷ xs) q some = some_still e (update e f x.0 (Some x.1)) xs q (put_some (e x.0 q) x.1 (f q) some)

some_or_none : {X : Type 0} (o : Option X) → (is_some o ≡ true) ⊎ (o ≡ None)
some_or_none None = inr refl
some_or_none (Some x) = inl refl

no_some : false ≡ true → ⊥
no_some e = absurd cc

-- what has none with the list has none in the map
none_in_map : (fates : map.BTreeMap (ℕ × ℕ) KeptFate) (recent : List ((ℕ × ℕ) × KeptFate)) (n i : ℕ) → fate_with fates recent n i ≡ None → map.get pair_cmp fates (n, i) ≡ None
none_in_map fates recent n i none =
    elim (some_or_none (map.get pair_cmp fates (n, i))) [
      | inl some ↦ (let still = some_still (eq_by_cmp pair_cmp) (map.get pair_cmp fates) recent (n, i) some in absurd (no_some (sym (ap (λ o. is_some o) none) ∙ still)))
      | inr nothing ↦ nothing
    ]

-- places above the top

pub knows_above : (g : Growing) (h : List Said) (shard : ℕ) (places : List ℕ) → 1 ≤ length places → rises places ≡ true → is_above (map.get nat_cmp g.tops shard) (get_or places 0 0) ≡ true
    → IsGrown g h → Knows g.table h shard places
knows_above g h shard places some rising above grown = record {
  fates = λ i held.
      let none : fate_said h shard i ≡ None = grown.tops shard i (at_least (map.get nat_cmp g.tops shard) (get_or places 0 0) i above (first_above places i some rising held)) in
      none_in_map g.table.fates g.recent.items shard i (grown.fates shard i ∙ none) ∙ sym none;
  tries = grown.tries;
  replays = grown.replays;
}

-- judging

or_true : (a b : Bool) → b ≡ true → (a || b) ≡ true
or_true true b e = refl
or_true false b e = e

any_same : (f g : ℕ → List ℕ → Bool) (places : List ℕ) (texts : List (List ℕ)) → ((i : ℕ) (t : List ℕ) → holds places i ≡ true → f i t ≡ g i t) → any_named f places texts ≡ any_named g places texts
any_same f g [] texts same = refl
any_same f g (place ∷ places) [] same = refl
any_same f g (place ∷ places) (text ∷ texts) same =
    ap (λ b. b || any_named f places texts) (same place text (ap (λ b. b || holds places place) (eq-eqb place place refl)))
    ∙ ap (λ b. g place text || b) (any_same f g places texts (λ i t held. same i t (or_true (eqb place i) (holds places i) held)))

spent_same : (k m : Known) (n i : ℕ) (text : List ℕ) → k.fates n i ≡ m.fates n i → k.tries n i ≡ m.tries n i → is_spent k n i text ≡ is_spent m n i text
spent_same k m n i text f t =
    ap (λ o. is_some o || differs (option_or (fate_text o) (tries_text (k.tries n i))) text) f
    ∙ ap (λ o. is_some (m.fates n i) || differs (option_or (fate_text (m.fates n i)) (tries_text o)) text) t

no_replay_same : (k m : Known) (n i : ℕ) (text : List ℕ) → k.fates n i ≡ m.fates n i → k.tries n i ≡ m.tries n i → k.replays n i ≡ m.replays n i → is_no_replay k n i text ≡ is_no_replay m n i text
no_replay_same k m n i text f t r =
    ap (λ o. not (has_failed o) || k.replays n i || differs (option_or (fate_text o) (tries_text (k.tries n i))) text) f
    ∙ ap (λ o. not (has_failed (m.fates n i)) || k.replays n i || differs (option_or (fate_text (m.fates n i)) (tries_text o)) text) t
    ∙ ap (λ b. not (has_failed (m.fates n i)) || b || differs (option_or (fate_text (m.fates n i)) (tries_text (m.tries n i))) text) r

-- of places whose fates the map has
judged_spent : (t : Table) (h : List Said) (shard : ℕ) (places : List ℕ) (texts : List (List ℕ)) → Knows t h shard places
    → any_named (is_spent (known_in t) shard) places texts ≡ any_named (is_spent (known h) shard) places texts
judged_spent t h shard places texts knows =
    any_same (is_spent (known_in t) shard) (is_spent (known h) shard) places texts (λ i text held. spent_same (known_in t) (known h) shard i text (knows.fates i held) (knows.tries shard i))

judged_no_replay : (t : Table) (h : List Said) (shard : ℕ) (places : List ℕ) (texts : List (List ℕ)) → Knows t h shard places
    → any_named (is_no_replay (known_in t) shard) places texts ≡ any_named (is_no_replay (known h) shard) places texts
judged_no_replay t h shard places texts knows =
    any_same (is_no_replay (known_in t) shard) (is_no_replay (known h) shard) places texts (λ i text held. no_replay_same (known_in t) (known h) shard i text (knows.fates i held) (knows.tries shard i) (knows.replays shard i))

-- the payload names the places of the shard, whose fates judge it
abbrev pub Names : Said → ℕ → List ℕ → Type 0
Names said shard places =
    ((fate : Fate) × (moment : ℕ) × (state : Option WindowState) × (texts : List (List ℕ)) × (said ≡ Fates shard fate moment state places texts))
    ⊎ (((moment : ℕ) × (tries : ℕ) × (texts : List (List ℕ)) × (said ≡ Tried shard moment tries places texts))
    ⊎ ((moment : ℕ) × (texts : List (List ℕ)) × (said ≡ Replayed shard moment places texts)))

pub judged_ready : (t : Table) (h : List Said) (said : Said) (shard : ℕ) (places : List ℕ) → Names said shard places → Knows t h shard places → is_bad (known_in t) said ≡ is_bad (known h) said
judged_ready t h said shard places names knows =
    elim names [
      | inl fates ↦ subst (λ s. is_bad (known_in t) s ≡ is_bad (known h) s) (sym fates.4) (judged_spent t h shard places fates.3 knows)
      | inr others ↦ (elim others [
        | inl tried ↦ subst (λ s. is_bad (known_in t) s ≡ is_bad (known h) s) (sym tried.3) (judged_spent t h shard places tried.2 knows)
        | inr replayed ↦ subst (λ s. is_bad (known_in t) s ≡ is_bad (known h) s) (sym replayed.2) (judged_no_replay t h shard places replayed.1 knows)
      ])
    ]
