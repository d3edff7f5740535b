-- Each kind of the shorter list: it names what the look-up finds, may be said, and is not bad.
use Rattle.std.proofs.Common.{◌≡◌, ℕ, ◌≤◌, ◌&&◌, ◌||◌, Bool, true, false, cond, eqb, not, List, [], ◌∷◌, ◌++◌, length, Option, Some, None, refl, sym, ap, ◌∙◌, inl, inr, append_assoc, arith}
use Rattle.std.specs.Prelude.{is_some, option_map, map, reverse}
use Rattle.std.specs.List.{AllByRecursion}
use Rattle.std.specs.Option.{option_or}
use Rattle.std.specs.Ordering.{is_eq}
use Rattle.std.specs.declared.cmp.Ordering.TheVariants.{Less}
use Rattle.std.specs.Map.{lookup, keys_of}
use Rattle.std.specs.BTreeMap.{is_at}
use Rattle.std.specs.List.Sorted.{IsStrictlySortedBy}
use Rattle.std.proofs.lemmas.Bool.{and_parts, cases_Bool, eqb-true, eq-eqb}
use Rattle.std.proofs.lemmas.Cmp.{nat_list_eq_equiv}
use Rattle.std.proofs.lemmas.List.{reverse-append, map-append}
use Rattle.std.proofs.lemmas.Map.{lookup-none}
use Rattle.std.proofs.lemmas.Map.Keys.{sorted_head, sorted_tail}
use Rattle.esm_model.specs.Entries.{holds}
use Rattle.esm_model.specs.Sequence.{is_sequence}
use Rattle.esm_model.specs.declared.entry.Fate.{Fate}
use Rattle.esm_model.specs.declared.entry.Fate.TheVariants.{Succeeded, Filtered, Expired, Exhausted}
use Rattle.esm_journal_state.specs.declared.kept.KeptFate.{KeptFate}
use Rattle.esm_journal_state.specs.declared.kept.KeptTries.{KeptTries}
use Rattle.esm_journal_record.specs.declared.said.Said.{Said}
use Rattle.esm_journal_record.specs.Payload.{is_place, fate_byte, IsMoment, IsSaid, is_message_id, may_keep}
use Rattle.esm_journal_state.specs.Meaning.{text_named, only_at, fate_kept, tries_kept, fate_after, tries_after, state_after, window_tries_after, replayed_after, deletion_after, fate_said, tries_said, state_said, window_tries_said, replayed_said, deletion_said, has_failed, known, Known, is_bad, is_spent, is_no_replay, is_deleted, fate_text, tries_text, differs}
use Rattle.esm_journal_state.specs.Pieces.{Key, Piece}
use Rattle.esm_journal_state.specs.SaidLists.{pair_cmp}
use Rattle.esm_journal_state.specs.Compact.{fate_text_of, tries_text_of, fates_look, tries_look, replays_look, deletions_look, fate_from, fates_of, tried_of, replayed_of, deleted_of, state_of_window, tried_of_window}
use Rattle.esm_journal_state.proofs.Cutting.{Pair, pair_from_named, named_from_pair, text_by, Fresh, IsPiece, IsCut}
use Rattle.esm_journal_state.proofs.Finding.{eqb-flip}
use Rattle.esm_journal_state.proofs.Histories.{Good, AllSaid, holds_pair, pair_holds, none_of, first_or_before, fate_valid, tries_valid, deletion_valid, tries_without_fate, replayed_failed}
use Rattle.esm_journal_state.proofs.Pairs.{same_pair}
use Rattle.esm_journal_state.proofs.Regrouping.{is_pair, itself, Apart}

-- options and tests

pub false_true : false ≡ true → ⊥
false_true e = absurd cc

pub same_option : {A : Type 0} (o p : Option A) → ((x : A) → o ≡ Some x → p ≡ Some x) → ((x : A) → p ≡ Some x → is_some o ≡ true) → o ≡ p
same_option None None there back = refl
same_option None (Some x) there back = absurd (false_true (back x refl))
same_option (Some x) p there back = sym (there x refl)

pub same_bool : (a b : Bool) → (a ≡ true → b ≡ true) → (b ≡ true → a ≡ true) → a ≡ b
same_bool true b there back = sym (there refl)
same_bool false true there back = back refl
same_bool false false there back = refl

pub none_from : {A B : Type 0} (o : Option A) (p : Option B) → is_some o ≡ is_some p → p ≡ None → o ≡ None
none_from None p same e = refl
none_from (Some x) p same e = absurd (false_true (sym (same ∙ ap is_some e)))

pub or_alike : {A : Type 0} (b : Bool) (f : List ℕ → A) (o : Option (List ℕ)) (x : Option A) (y : Option (List ℕ)) → is_some x ≡ is_some y → is_some (option_or (only_at b (option_map f o)) x) ≡ is_some (option_or (only_at b o) y)
or_alike true f None x y same = same
or_alike true f (Some t) x y same = refl
or_alike false f o x y same = same

-- entries that stay out of a look-up

pub skip_fates : {X : Type 0} (f : X → Said) → ((x : X) (n i : ℕ) (before : Option KeptFate) → fate_after n i before (f x) ≡ before) → (xs : List X) (d : List Said) (n i : ℕ) → fate_said (map f xs ++ d) n i ≡ fate_said d n i
skip_fates f keeps [] d n i = refl
skip_fates f keeps (x ∷ xs) d n i = keeps x n i (fate_said (map f xs ++ d) n i) ∙ skip_fates f keeps xs d n i

pub skip_tries : {X : Type 0} (f : X → Said) → ((x : X) (n i : ℕ) (before : Option KeptTries) → tries_after n i before (f x) ≡ before) → (xs : List X) (d : List Said) (n i : ℕ) → tries_said (map f xs ++ d) n i ≡ tries_said d n i
skip_tries f keeps [] d n i = refl
skip_tries f keeps (x ∷ xs) d n i = keeps x n i (tries_said (map f xs ++ d) n i) ∙ skip_tries f keeps xs d n i

pub skip_states : {X : Type 0} (f : X → Said) → ((x : X) (n w : ℕ) (before : Option (List ℕ)) → state_after n w before (f x) ≡ before) → (xs : List X) (d : List Said) (n w : ℕ) → state_said (map f xs ++ d) n w ≡ state_said d n w
skip_states f keeps [] d n w = refl
skip_states f keeps (x ∷ xs) d n w = keeps x n w (state_said (map f xs ++ d) n w) ∙ skip_states f keeps xs d n w

pub skip_window_tries : {X : Type 0} (f : X → Said) → ((x : X) (n w : ℕ) (before : Option ℕ) → window_tries_after n w before (f x) ≡ before) → (xs : List X) (d : List Said) (n w : ℕ) → window_tries_said (map f xs ++ d) n w ≡ window_tries_said d n w
skip_window_tries f keeps [] d n w = refl
skip_window_tries f keeps (x ∷ xs) d n w = keeps x n w (window_tries_said (map f xs ++ d) n w) ∙ skip_window_tries f keeps xs d n w

pub skip_replays : {X : Type 0} (f : X → Said) → ((x : X) (n i : ℕ) (before : Bool) → replayed_after n i before (f x) ≡ before) → (xs : List X) (d : List Said) (n i : ℕ) → replayed_said (map f xs ++ d) n i ≡ replayed_said d n i
skip_replays f keeps [] d n i = refl
skip_replays f keeps (x ∷ xs) d n i = keeps x n i (replayed_said (map f xs ++ d) n i) ∙ skip_replays f keeps xs d n i

pub skip_deletions : {X : Type 0} (f : X → Said) → ((x : X) (i : ℕ) (before : Option KeptFate) → deletion_after i before (f x) ≡ before) → (xs : List X) (d : List Said) (i : ℕ) → deletion_said (map f xs ++ d) i ≡ deletion_said d i
skip_deletions f keeps [] d i = refl
skip_deletions f keeps (x ∷ xs) d i = keeps x i (deletion_said (map f xs ++ d) i) ∙ skip_deletions f keeps xs d i

-- pieces

pub or_itself : (b : Bool) (o before : Option (List ℕ)) → option_or (only_at b (option_map (λ x. x) o)) before ≡ option_or (only_at b o) before
or_itself true None before = refl
or_itself true (Some x) before = refl
or_itself false o before = refl

-- what an old piece names, the look-up finds in its shard
pub by_sound : (is_text : List ℕ → Bool) (look : Key → Option (List ℕ)) (ps : List Piece) (n i : ℕ) (t : List ℕ) → AllByRecursion (IsPiece is_text look) ps → text_by ps n i ≡ Some t → (b : ℕ) × (look ((n, b), i) ≡ Some t)
by_sound is_text look [] n i t all e = absurd cc
by_sound is_text look (p ∷ ps) n i t all e =
    elim (first_or_before (λ x. x) (eqb p.group.0 n) (text_named p.places p.texts i) (text_by ps n i) t (or_itself (eqb p.group.0 n) (text_named p.places p.texts i) (text_by ps n i) ∙ e)) [
      | inl here ↦
          (let found = all.0.sound i here.1.0 (pair_from_named p.places p.texts i here.1.0 here.1.1) in
          (p.group.1, sym (ap (λ a. look ((a, p.group.1), i)) (eqb-true p.group.0 n here.0)) ∙ found ∙ ap (λ x. Some x) here.1.2))
      | inr before ↦ by_sound is_text look ps n i t all.1 before
    ]

pub first_pair : (places : List ℕ) (texts : List (List ℕ)) → 1 ≤ length places → length texts ≡ length places → (i : ℕ) × (t : List ℕ) × Pair places texts i t
first_pair [] texts some same = absurd (omega arith)
first_pair (place ∷ places) [] some same = absurd (omega arith)
first_pair (place ∷ places) (text ∷ texts) some same = (place, text, inl (refl, refl))

-- the look-up finds something in the group of a piece
pub group_found : (is_text : List ℕ → Bool) (look : Key → Option (List ℕ)) (p : Piece) → IsPiece is_text look p → (i : ℕ) × (t : List ℕ) × (look (p.group, i) ≡ Some t)
group_found is_text look p piece =
    let f = first_pair p.places p.texts piece.named.some piece.named.same in
    (f.0, f.1, piece.sound f.0 f.1 f.2)

-- fates by their bytes

pub byte_back : (fate : Fate) → fate_from (fate_byte fate) ≡ fate
byte_back Succeeded = refl
byte_back Filtered = refl
byte_back Expired = refl
byte_back Exhausted = refl

abbrev pub FoundAs : Option KeptFate → ℕ → List ℕ → Type 0
FoundAs o b t = (v : KeptFate) × (o ≡ Some v) × (fate_byte v.fate ≡ b) × (v.text ≡ t)

pub found_as : (o : Option KeptFate) (b : ℕ) (t : List ℕ) → fate_text_of o b ≡ Some t → FoundAs o b t
found_as None b t e = absurd cc
found_as (Some v) b t e =
    elim (cases_Bool (eqb (fate_byte v.fate) b)) [
      | inl hit ↦ (let same : Some v.text ≡ Some t = sym (ap (λ x. cond x (Some v.text) None) hit) ∙ e in (v, refl, eqb-true (fate_byte v.fate) b hit, cc))
      | inr miss ↦ (let never : None ≡ Some t = sym (ap (λ x. cond x (Some v.text) None) miss) ∙ e in absurd cc)
    ]

pub kept_from : (o : Option KeptFate) (b : ℕ) (t : List ℕ) → fate_text_of o b ≡ Some t → o ≡ Some (fate_kept (fate_from b) t)
kept_from o b t e =
    let f = found_as o b t e in
    f.1 ∙ ap (λ x. Some (fate_kept x f.0.text)) (sym (byte_back f.0.fate) ∙ ap fate_from f.2) ∙ ap (λ x. Some (fate_kept (fate_from b) x)) f.3

pub text_of_itself : (v : KeptFate) → fate_text_of (Some v) (fate_byte v.fate) ≡ Some v.text
text_of_itself v = ap (λ b. cond b (Some v.text) None) (eq-eqb (fate_byte v.fate) (fate_byte v.fate) refl)

pub one_byte : (o : Option KeptFate) (b c : ℕ) (t u : List ℕ) → fate_text_of o b ≡ Some t → fate_text_of o c ≡ Some u → b ≡ c
one_byte o b c t u e f =
    let x = found_as o b t e in
    let y = found_as o c u f in
    let same : Some x.0 ≡ Some y.0 = sym x.1 ∙ y.1 in
    let is : x.0 ≡ y.0 = cc in
    sym x.2 ∙ ap (λ (v : KeptFate). fate_byte v.fate) is ∙ y.2

-- tries by their number

abbrev pub TriesAs : Option KeptTries → ℕ → List ℕ → Type 0
TriesAs o b t = (v : KeptTries) × (o ≡ Some v) × (v.tries ≡ b) × (v.text ≡ t)

pub tries_as : (o : Option KeptTries) (b : ℕ) (t : List ℕ) → tries_text_of o b ≡ Some t → TriesAs o b t
tries_as None b t e = absurd cc
tries_as (Some v) b t e =
    elim (cases_Bool (eqb v.tries b)) [
      | inl hit ↦ (let same : Some v.text ≡ Some t = sym (ap (λ x. cond x (Some v.text) None) hit) ∙ e in (v, refl, eqb-true v.tries b hit, cc))
      | inr miss ↦ (let never : None ≡ Some t = sym (ap (λ x. cond x (Some v.text) None) miss) ∙ e in absurd cc)
    ]

pub tries_from : (o : Option KeptTries) (b : ℕ) (t : List ℕ) → tries_text_of o b ≡ Some t → o ≡ Some (tries_kept b t)
tries_from o b t e =
    let f = tries_as o b t e in
    f.1 ∙ ap (λ x. Some (tries_kept x f.0.text)) f.2 ∙ ap (λ x. Some (tries_kept b x)) f.3

pub tries_of_itself : (v : KeptTries) → tries_text_of (Some v) v.tries ≡ Some v.text
tries_of_itself v = ap (λ b. cond b (Some v.text) None) (eq-eqb v.tries v.tries refl)

-- fates

pub some_fates : (m : ℕ) (ps : List Piece) (n i : ℕ) → is_some (fate_said (map (fates_of m) ps ++ []) n i) ≡ is_some (text_by ps n i)
some_fates m [] n i = refl
some_fates m (p ∷ ps) n i =
    or_alike (eqb p.group.0 n) (fate_kept (fate_from p.group.1)) (text_named p.places p.texts i) (fate_said (map (fates_of m) ps ++ []) n i) (text_by ps n i) (some_fates m ps n i)

pub fates_sound : (h : List Said) (m : ℕ) (ps : List Piece) (n i : ℕ) (k : KeptFate) → AllByRecursion (IsPiece is_sequence (fates_look h)) ps → fate_said (map (fates_of m) ps ++ []) n i ≡ Some k → fate_said h n i ≡ Some k
fates_sound h m [] n i k all e = absurd cc
fates_sound h m (p ∷ ps) n i k all e =
    elim (first_or_before (fate_kept (fate_from p.group.1)) (eqb p.group.0 n) (text_named p.places p.texts i) (fate_said (map (fates_of m) ps ++ []) n i) k e) [
      | inl here ↦
          (let found = all.0.sound i here.1.0 (pair_from_named p.places p.texts i here.1.0 here.1.1) in
          sym (ap (λ a. fate_said h a i) (eqb-true p.group.0 n here.0)) ∙ kept_from (fate_said h p.group.0 i) p.group.1 here.1.0 found ∙ ap (λ x. Some x) here.1.2)
      | inr before ↦ fates_sound h m ps n i k all.1 before
    ]

pub fates_same : (h : List Said) (m : ℕ) (ps : List Piece) (n i : ℕ) → IsCut is_sequence (fates_look h) ps → fate_said (map (fates_of m) ps ++ []) n i ≡ fate_said h n i
fates_same h m ps n i is_cut =
    same_option (fate_said (map (fates_of m) ps ++ []) n i) (fate_said h n i) (λ k e. fates_sound h m ps n i k is_cut.pieces e)
    (λ k e. some_fates m ps n i ∙ is_cut.cover ((n, fate_byte k.fate), i) k.text (ap (λ o. fate_text_of o (fate_byte k.fate)) e ∙ text_of_itself k))

pub none_either : {A : Type 0} (b : Bool) (o : Option A) → o ≡ None → cond b None o ≡ None
none_either true o e = refl
none_either false o e = e

pub no_tries_there : (m : ℕ) (ps : List Piece) (n i : ℕ) → tries_said (map (fates_of m) ps ++ []) n i ≡ None
no_tries_there m [] n i = refl
no_tries_there m (p ∷ ps) n i = none_either (eqb p.group.0 n && holds p.places i) (tries_said (map (fates_of m) ps ++ []) n i) (no_tries_there m ps n i)

pub spent_not : (fate : Option KeptFate) (tries : Option KeptTries) (t : List ℕ) → fate ≡ None → tries ≡ None → (is_some fate || differs (option_or (fate_text fate) (tries_text tries)) t) ≡ false
spent_not fate tries t e f = rw (e, f) refl

pub fates_good : (h : List Said) (m : ℕ) (ps : List Piece) → AllByRecursion (IsPiece is_sequence (fates_look h)) ps → Fresh ps → Good (map (fates_of m) ps ++ [])
fates_good h m [] all fresh = tt
fates_good h m (p ∷ ps) all fresh =
    let d = map (fates_of m) ps ++ [] in (
      none_of (is_spent (known d) p.group.0) p.places p.texts
          (λ i t pair. spent_not (fate_said d p.group.0 i) (tries_said d p.group.0 i) t
          (none_from (fate_said d p.group.0 i) (text_by ps p.group.0 i) (some_fates m ps p.group.0 i) (fresh.0 i t pair)) (no_tries_there m ps p.group.0 i)),
      fates_good h m ps all.1 fresh.1,
    )

pub fates_valid : (h : List Said) → AllSaid h → (q : Key) (t : List ℕ) → fates_look h q ≡ Some t → (is_place q.1 ≡ true) × (is_sequence t ≡ true)
fates_valid h said q t e =
    let v = fate_valid h q.0.0 q.1 (fate_kept (fate_from q.0.1) t) said (kept_from (fate_said h q.0.0 q.1) q.0.1 t e) in
    (v.1, v.2)

pub keeps_none : (fate : Fate) → may_keep fate None ≡ true
keeps_none Succeeded = refl
keeps_none Filtered = refl
keeps_none Expired = refl
keeps_none Exhausted = refl

pub fates_said : (h : List Said) (m : ℕ) (p : Piece) → AllSaid h → IsMoment m → IsPiece is_sequence (fates_look h) p → IsSaid (fates_of m p)
fates_said h m p said moment piece =
    let g = group_found is_sequence (fates_look h) p piece in
    let v = fate_valid h p.group.0 g.0 (fate_kept (fate_from p.group.1) g.1) said (kept_from (fate_said h p.group.0 g.0) p.group.1 g.1 g.2) in
    (v.0, moment, tt, keeps_none (fate_from p.group.1), piece.named)

-- tries

pub some_tries : (m : ℕ) (ps : List Piece) (d : List Said) (n i : ℕ) → tries_said d n i ≡ None → is_some (tries_said (map (tried_of m) ps ++ d) n i) ≡ is_some (text_by ps n i)
some_tries m [] d n i none = ap is_some none
some_tries m (p ∷ ps) d n i none =
    or_alike (eqb p.group.0 n) (tries_kept p.group.1) (text_named p.places p.texts i) (tries_said (map (tried_of m) ps ++ d) n i) (text_by ps n i) (some_tries m ps d n i none)

pub tries_sound : (h : List Said) (m : ℕ) (ps : List Piece) (d : List Said) (n i : ℕ) (k : KeptTries) → tries_said d n i ≡ None → AllByRecursion (IsPiece is_sequence (tries_look h)) ps → tries_said (map (tried_of m) ps ++ d) n i ≡ Some k → tries_said h n i ≡ Some k
tries_sound h m [] d n i k none all e = absurd cc
tries_sound h m (p ∷ ps) d n i k none all e =
    elim (first_or_before (tries_kept p.group.1) (eqb p.group.0 n) (text_named p.places p.texts i) (tries_said (map (tried_of m) ps ++ d) n i) k e) [
      | inl here ↦
          (let found = all.0.sound i here.1.0 (pair_from_named p.places p.texts i here.1.0 here.1.1) in
          sym (ap (λ a. tries_said h a i) (eqb-true p.group.0 n here.0)) ∙ tries_from (tries_said h p.group.0 i) p.group.1 here.1.0 found ∙ ap (λ x. Some x) here.1.2)
      | inr before ↦ tries_sound h m ps d n i k none all.1 before
    ]

pub tries_same : (h : List Said) (m : ℕ) (ps : List Piece) (d : List Said) (n i : ℕ) → tries_said d n i ≡ None → IsCut is_sequence (tries_look h) ps → tries_said (map (tried_of m) ps ++ d) n i ≡ tries_said h n i
tries_same h m ps d n i none is_cut =
    same_option (tries_said (map (tried_of m) ps ++ d) n i) (tries_said h n i) (λ k e. tries_sound h m ps d n i k none is_cut.pieces e)
    (λ k e. some_tries m ps d n i none ∙ is_cut.cover ((n, k.tries), i) k.text (ap (λ o. tries_text_of o k.tries) e ∙ tries_of_itself k))

pub tries_good : (h : List Said) (m : ℕ) (ps : List Piece) (d : List Said) → AllSaid h → Good h → ((n i : ℕ) → fate_said d n i ≡ fate_said h n i) → ((n i : ℕ) → tries_said d n i ≡ None)
    → AllByRecursion (IsPiece is_sequence (tries_look h)) ps → Fresh ps → Good d → Good (map (tried_of m) ps ++ d)
tries_good h m [] d said good fates none all fresh good_d = good_d
tries_good h m (p ∷ ps) d said good fates none all fresh good_d =
    let k = map (tried_of m) ps ++ d in (
      none_of (is_spent (known k) p.group.0) p.places p.texts
          (λ i t pair. spent_not (fate_said k p.group.0 i) (tries_said k p.group.0 i) t
          (skip_fates (tried_of m) (λ x n i before. refl) ps d p.group.0 i ∙ fates p.group.0 i
          ∙ tries_without_fate h p.group.0 i (tries_kept p.group.1 t) said good (tries_from (tries_said h p.group.0 i) p.group.1 t (all.0.sound i t pair)))
          (none_from (tries_said k p.group.0 i) (text_by ps p.group.0 i) (some_tries m ps d p.group.0 i (none p.group.0 i)) (fresh.0 i t pair))),
      tries_good h m ps d said good fates none all.1 fresh.1 good_d,
    )

pub tries_look_valid : (h : List Said) → AllSaid h → (q : Key) (t : List ℕ) → tries_look h q ≡ Some t → (is_place q.1 ≡ true) × (is_sequence t ≡ true)
tries_look_valid h said q t e =
    let v = tries_valid h q.0.0 q.1 (tries_kept q.0.1 t) said (tries_from (tries_said h q.0.0 q.1) q.0.1 t e) in
    (v.1, v.2)

pub one_number : (o : Option KeptTries) (b c : ℕ) (t u : List ℕ) → tries_text_of o b ≡ Some t → tries_text_of o c ≡ Some u → b ≡ c
one_number o b c t u e f =
    let x = tries_as o b t e in
    let y = tries_as o c u f in
    let same : Some x.0 ≡ Some y.0 = sym x.1 ∙ y.1 in
    let is : x.0 ≡ y.0 = cc in
    sym x.2 ∙ ap (λ (v : KeptTries). v.tries) is ∙ y.2

pub tried_said : (h : List Said) (m : ℕ) (p : Piece) → AllSaid h → IsMoment m → IsPiece is_sequence (tries_look h) p → IsSaid (tried_of m p)
tried_said h m p said moment piece =
    let g = group_found is_sequence (tries_look h) p piece in
    let v = tries_valid h p.group.0 g.0 (tries_kept p.group.1 g.1) said (tries_from (tries_said h p.group.0 g.0) p.group.1 g.1 g.2) in
    (v.0, moment, v.3, piece.named)

-- replays

pub value_of : {A : Type 0} (o : Option A) → is_some o ≡ true → (x : A) × (o ≡ Some x)
value_of None e = absurd cc
value_of (Some x) e = (x, refl)

pub holds_is : (places : List ℕ) (texts : List (List ℕ)) (i : ℕ) → length texts ≡ length places → holds places i ≡ is_some (text_named places texts i)
holds_is places texts i same =
    same_bool (holds places i) (is_some (text_named places texts i))
    (λ held. let pair = holds_pair places texts i same held in named_from_pair places texts i pair.0 pair.1)
    (λ named. let v = value_of (text_named places texts i) named in pair_holds places texts i v.0 (pair_from_named places texts i v.0 v.1))

pub or_named : (a : Bool) (o x : Option (List ℕ)) (d : Bool) → ((a && is_some o) || (is_some x || d)) ≡ (is_some (option_or (only_at a o) x) || d)
or_named true None x d = refl
or_named true (Some t) x d = refl
or_named false o x d = refl

pub replays_are : (look : Key → Option (List ℕ)) (m : ℕ) (ps : List Piece) (d : List Said) (n i : ℕ) → AllByRecursion (IsPiece is_sequence look) ps → replayed_said (map (replayed_of m) ps ++ d) n i ≡ (is_some (text_by ps n i) || replayed_said d n i)
replays_are look m [] d n i all = refl
replays_are look m (p ∷ ps) d n i all =
    ap (λ b. (eqb p.group.0 n && b) || replayed_said (map (replayed_of m) ps ++ d) n i) (holds_is p.places p.texts i all.0.named.same)
    ∙ ap (λ b. (eqb p.group.0 n && is_some (text_named p.places p.texts i)) || b) (replays_are look m ps d n i all.1)
    ∙ or_named (eqb p.group.0 n) (text_named p.places p.texts i) (text_by ps n i) (replayed_said d n i)

-- a replay that is found has this fate
pub replay_found_as : (h : List Said) (q : Key) (t : List ℕ) → replays_look h q ≡ Some t → (replayed_said h q.0.0 q.1 ≡ true) × (q.0.1 ≡ 0) × (fate_text (fate_said h q.0.0 q.1) ≡ Some t)
replay_found_as h q t e =
    elim (cases_Bool (replayed_said h q.0.0 q.1 && eqb q.0.1 0)) [
      | inl hit ↦
          (let parts = and_parts (replayed_said h q.0.0 q.1) (eqb q.0.1 0) hit in
          (parts.0, eqb-true q.0.1 0 parts.1, sym (ap (λ b. cond b (fate_text (fate_said h q.0.0 q.1)) None) hit) ∙ e))
      | inr miss ↦ (let never : None ≡ Some t = sym (ap (λ b. cond b (fate_text (fate_said h q.0.0 q.1)) None) miss) ∙ e in absurd cc)
    ]

pub text_found : (o : Option KeptFate) (t : List ℕ) → fate_text o ≡ Some t → (v : KeptFate) × (o ≡ Some v) × (v.text ≡ t)
text_found None t e = absurd cc
text_found (Some v) t e = (v, refl, cc)

pub failed_value : (o : Option KeptFate) → has_failed o ≡ true → (v : KeptFate) × (o ≡ Some v)
failed_value None e = absurd cc
failed_value (Some v) e = (v, refl)

pub or_false : (b : Bool) → (b || false) ≡ b
or_false true = refl
or_false false = refl

pub replay_found : (h : List Said) (n i : ℕ) (v : KeptFate) → replayed_said h n i ≡ true → fate_said h n i ≡ Some v → replays_look h ((n, 0), i) ≡ Some v.text
replay_found h n i v replayed e = ap (λ b. cond (b && true) (fate_text (fate_said h n i)) None) replayed ∙ ap fate_text e

pub replays_same : (h : List Said) (m : ℕ) (ps : List Piece) (d : List Said) (n i : ℕ) → AllSaid h → Good h → replayed_said d n i ≡ false → IsCut is_sequence (replays_look h) ps → replayed_said (map (replayed_of m) ps ++ d) n i ≡ replayed_said h n i
replays_same h m ps d n i said good none is_cut =
    replays_are (replays_look h) m ps d n i is_cut.pieces
    ∙ ap (λ b. is_some (text_by ps n i) || b) none
    ∙ or_false (is_some (text_by ps n i))
    ∙ same_bool (is_some (text_by ps n i)) (replayed_said h n i)
    (λ named. let v = value_of (text_by ps n i) named in
    let f = by_sound is_sequence (replays_look h) ps n i v.0 is_cut.pieces v.1 in
    (replay_found_as h ((n, f.0), i) v.0 f.1).0)
    (λ replayed. let v = failed_value (fate_said h n i) (replayed_failed h n i said good replayed) in
    let found : replays_look h ((n, 0), i) ≡ Some v.0.text = replay_found h n i v.0 replayed v.1 in
    is_cut.cover ((n, 0), i) v.0.text found)

pub same_text : (t : List ℕ) → differs (Some t) t ≡ false
same_text t = ap not (nat_list_eq_equiv.refl t)

pub not_no_replay : (fate : Option KeptFate) (tries : Option KeptTries) (replayed : Bool) (t : List ℕ) → has_failed fate ≡ true → replayed ≡ false → fate_text fate ≡ Some t
    → (not (has_failed fate) || replayed || differs (option_or (fate_text fate) (tries_text tries)) t) ≡ false
not_no_replay fate tries replayed t failed none text = rw (failed, none, text) (same_text t)

pub replays_good : (h : List Said) (m : ℕ) (ps : List Piece) (d : List Said) → AllSaid h → Good h → ((n i : ℕ) → fate_said d n i ≡ fate_said h n i) → ((n i : ℕ) → replayed_said d n i ≡ false)
    → AllByRecursion (IsPiece is_sequence (replays_look h)) ps → Fresh ps → Good d → Good (map (replayed_of m) ps ++ d)
replays_good h m [] d said good fates none all fresh good_d = good_d
replays_good h m (p ∷ ps) d said good fates none all fresh good_d =
    let k = map (replayed_of m) ps ++ d in (
      none_of (is_no_replay (known k) p.group.0) p.places p.texts
          (λ i t pair.
          let f = replay_found_as h (p.group, i) t (all.0.sound i t pair) in
          let fate : fate_said k p.group.0 i ≡ fate_said h p.group.0 i = skip_fates (replayed_of m) (λ x n i before. refl) ps d p.group.0 i ∙ fates p.group.0 i in
          not_no_replay (fate_said k p.group.0 i) (tries_said k p.group.0 i) (replayed_said k p.group.0 i) t
          (ap has_failed fate ∙ replayed_failed h p.group.0 i said good f.0)
          (replays_are (replays_look h) m ps d p.group.0 i all.1 ∙ ap (λ o. is_some o || replayed_said d p.group.0 i) (fresh.0 i t pair) ∙ none p.group.0 i)
          (ap fate_text fate ∙ f.2)),
      replays_good h m ps d said good fates none all.1 fresh.1 good_d,
    )

pub replays_valid : (h : List Said) → AllSaid h → (q : Key) (t : List ℕ) → replays_look h q ≡ Some t → (is_place q.1 ≡ true) × (is_sequence t ≡ true)
replays_valid h said q t e =
    let f = replay_found_as h q t e in
    let x = text_found (fate_said h q.0.0 q.1) t f.2 in
    let v = fate_valid h q.0.0 q.1 x.0 said x.1 in
    (v.1, ap is_sequence (sym x.2) ∙ v.2)

pub replays_one_group : (h : List Said) (a b c i : ℕ) (t u : List ℕ) → replays_look h ((a, b), i) ≡ Some t → replays_look h ((a, c), i) ≡ Some u → b ≡ c
replays_one_group h a b c i t u e f = (replay_found_as h ((a, b), i) t e).1 ∙ sym (replay_found_as h ((a, c), i) u f).1

pub replayed_may : (h : List Said) (m : ℕ) (p : Piece) → AllSaid h → IsMoment m → IsPiece is_sequence (replays_look h) p → IsSaid (replayed_of m p)
replayed_may h m p said moment piece =
    let g = group_found is_sequence (replays_look h) p piece in
    let x = text_found (fate_said h p.group.0 g.0) g.1 (replay_found_as h (p.group, g.0) g.1 g.2).2 in
    let v = fate_valid h p.group.0 g.0 x.0 said x.1 in
    (v.0, moment, piece.named)

-- deletions

pub deletion_found_as : (h : List Said) (q : Key) (t : List ℕ) → deletions_look h q ≡ Some t → (q.0.0 ≡ 0) × (fate_text_of (deletion_said h q.1) q.0.1 ≡ Some t)
deletion_found_as h q t e =
    elim (cases_Bool (eqb q.0.0 0)) [
      | inl hit ↦ (eqb-true q.0.0 0 hit, sym (ap (λ b. cond b (fate_text_of (deletion_said h q.1) q.0.1) None) hit) ∙ e)
      | inr miss ↦ (let never : None ≡ Some t = sym (ap (λ b. cond b (fate_text_of (deletion_said h q.1) q.0.1) None) miss) ∙ e in absurd cc)
    ]

pub group_zero : (h : List Said) (p : Piece) → IsPiece is_message_id (deletions_look h) p → p.group.0 ≡ 0
group_zero h p piece = let g = group_found is_message_id (deletions_look h) p piece in (deletion_found_as h (p.group, g.0) g.1 g.2).0

pub some_deletions : (h : List Said) (m : ℕ) (ps : List Piece) (d : List Said) (i : ℕ) → AllByRecursion (IsPiece is_message_id (deletions_look h)) ps → deletion_said d i ≡ None → is_some (deletion_said (map (deleted_of m) ps ++ d) i) ≡ is_some (text_by ps 0 i)
some_deletions h m [] d i all none = ap is_some none
some_deletions h m (p ∷ ps) d i all none =
    or_alike true (fate_kept (fate_from p.group.1)) (text_named p.places p.texts i) (deletion_said (map (deleted_of m) ps ++ d) i) (text_by ps 0 i) (some_deletions h m ps d i all.1 none)
    ∙ ap (λ b. is_some (option_or (only_at b (text_named p.places p.texts i)) (text_by ps 0 i))) (sym (eq-eqb p.group.0 0 (group_zero h p all.0)))

pub deletions_sound : (h : List Said) (m : ℕ) (ps : List Piece) (d : List Said) (i : ℕ) (k : KeptFate) → deletion_said d i ≡ None → AllByRecursion (IsPiece is_message_id (deletions_look h)) ps → deletion_said (map (deleted_of m) ps ++ d) i ≡ Some k → deletion_said h i ≡ Some k
deletions_sound h m [] d i k none all e = absurd cc
deletions_sound h m (p ∷ ps) d i k none all e =
    elim (first_or_before (fate_kept (fate_from p.group.1)) true (text_named p.places p.texts i) (deletion_said (map (deleted_of m) ps ++ d) i) k e) [
      | inl here ↦
          (let found = all.0.sound i here.1.0 (pair_from_named p.places p.texts i here.1.0 here.1.1) in
          kept_from (deletion_said h i) p.group.1 here.1.0 (deletion_found_as h (p.group, i) here.1.0 found).1 ∙ ap (λ x. Some x) here.1.2)
      | inr before ↦ deletions_sound h m ps d i k none all.1 before
    ]

pub deletions_same : (h : List Said) (m : ℕ) (ps : List Piece) (d : List Said) (i : ℕ) → deletion_said d i ≡ None → IsCut is_message_id (deletions_look h) ps → deletion_said (map (deleted_of m) ps ++ d) i ≡ deletion_said h i
deletions_same h m ps d i none is_cut =
    same_option (deletion_said (map (deleted_of m) ps ++ d) i) (deletion_said h i) (λ k e. deletions_sound h m ps d i k none is_cut.pieces e)
    (λ k e. some_deletions h m ps d i is_cut.pieces none ∙ is_cut.cover ((0, fate_byte k.fate), i) k.text (ap (λ o. fate_text_of o (fate_byte k.fate)) e ∙ text_of_itself k))

pub deletions_good : (h : List Said) (m : ℕ) (ps : List Piece) (d : List Said) → ((i : ℕ) → deletion_said d i ≡ None) → AllByRecursion (IsPiece is_message_id (deletions_look h)) ps → Fresh ps → Good d → Good (map (deleted_of m) ps ++ d)
deletions_good h m [] d none all fresh good_d = good_d
deletions_good h m (p ∷ ps) d none all fresh good_d =
    let k = map (deleted_of m) ps ++ d in (
      none_of (is_deleted (known k)) p.places p.texts
          (λ i t pair. some_deletions h m ps d i all.1 (none i) ∙ ap is_some (sym (ap (λ a. text_by ps a i) (group_zero h p all.0)) ∙ fresh.0 i t pair)),
      deletions_good h m ps d none all.1 fresh.1 good_d,
    )

pub deletions_valid : (h : List Said) → AllSaid h → (q : Key) (t : List ℕ) → deletions_look h q ≡ Some t → (is_place q.1 ≡ true) × (is_message_id t ≡ true)
deletions_valid h said q t e =
    let v = deletion_valid h q.1 (fate_kept (fate_from q.0.1) t) said (kept_from (deletion_said h q.1) q.0.1 t (deletion_found_as h q t e).1) in
    (v.0, v.1)

pub deleted_may : (h : List Said) (m : ℕ) (p : Piece) → AllSaid h → IsMoment m → IsPiece is_message_id (deletions_look h) p → IsSaid (deleted_of m p)
deleted_may h m p said moment piece =
    let g = group_found is_message_id (deletions_look h) p piece in
    let v = deletion_valid h g.0 (fate_kept (fate_from p.group.1) g.1) said (kept_from (deletion_said h g.0) p.group.1 g.1 (deletion_found_as h (p.group, g.0) g.1 g.2).1) in
    (v.2, moment, piece.named)

-- windows

pub turned_cons : {X : Type 0} (f : X → Said) (x : X) (xs : List X) (d : List Said) → map f (reverse (x ∷ xs)) ++ d ≡ map f (reverse xs) ++ (f x ∷ d)
turned_cons f x xs d =
    ap (λ ys. map f ys ++ d) (reverse-append (x ∷ []) xs) ∙ ap (λ ss. ss ++ d) (map-append f (reverse xs) (x ∷ [])) ∙ append_assoc (map f (reverse xs)) (f x ∷ []) d

abbrev pub here_at : {X : Type 0} → ℕ → ℕ → (ℕ × ℕ) × X → Bool
here_at n w e = eqb e.0.0 n && eqb e.0.1 w

pub state_put : (a b : Bool) (x : List ℕ) (before : Option (List ℕ)) → option_or (only_at a (cond b (Some x) None)) before ≡ cond (a && b) (Some x) before
state_put true true x before = refl
state_put true false x before = refl
state_put false b x before = refl

-- one window more, where no later entry has it
pub window_step : {X : Type 0} (b : Bool) (x : X) (others before : Option X) → (b ≡ true → others ≡ None) → option_or others (cond b (Some x) before) ≡ option_or (cond b (Some x) others) before
window_step true x others before apart = ap (λ o. option_or o (Some x)) (apart refl)
window_step false x others before apart = refl

pub none_here : {X : Type 0} (e : (ℕ × ℕ) × X) (es : List ((ℕ × ℕ) × X)) (n w : ℕ) → Apart itself (e ∷ es) → here_at n w e ≡ true → lookup (is_pair itself (n, w)) es ≡ None
none_here e es n w apart hit =
    let parts = and_parts (eqb e.0.0 n) (eqb e.0.1 w) hit in
    let same : e.0 ≡ (n, w) = ap (λ a. (a, e.0.1)) (eqb-true e.0.0 n parts.0) ∙ ap (λ b. (n, b)) (eqb-true e.0.1 w parts.1) in
    lookup-none (is_pair itself (n, w)) es (rw same at apart.0)

pub states_are : (m : ℕ) (es : List ((ℕ × ℕ) × List ℕ)) (d : List Said) (n w : ℕ) → Apart itself es → state_said (map (state_of_window m) (reverse es) ++ d) n w ≡ option_or (lookup (is_pair itself (n, w)) es) (state_said d n w)
states_are m [] d n w apart = refl
states_are m (e ∷ es) d n w apart =
    ap (λ h. state_said h n w) (turned_cons (state_of_window m) e es d)
    ∙ states_are m es (state_of_window m e ∷ d) n w apart.1
    ∙ ap (λ o. option_or (lookup (is_pair itself (n, w)) es) o) (state_put (eqb e.0.0 n) (eqb e.0.1 w) e.1 (state_said d n w))
    ∙ window_step (here_at n w e) e.1 (lookup (is_pair itself (n, w)) es) (state_said d n w) (none_here e es n w apart)

pub window_tries_are : (m : ℕ) (es : List ((ℕ × ℕ) × ℕ)) (d : List Said) (n w : ℕ) → Apart itself es → window_tries_said (map (tried_of_window m) (reverse es) ++ d) n w ≡ option_or (lookup (is_pair itself (n, w)) es) (window_tries_said d n w)
window_tries_are m [] d n w apart = refl
window_tries_are m (e ∷ es) d n w apart =
    ap (λ h. window_tries_said h n w) (turned_cons (tried_of_window m) e es d)
    ∙ window_tries_are m es (tried_of_window m e ∷ d) n w apart.1
    ∙ window_step (here_at n w e) e.1 (lookup (is_pair itself (n, w)) es) (window_tries_said d n w) (none_here e es n w apart)

pub or_nothing : {A : Type 0} (o p : Option A) → p ≡ None → option_or o p ≡ o
or_nothing None p e = e
or_nothing (Some x) p e = refl

pub harmless : {X : Type 0} (f : X → Said) → ((x : X) (k : Known) → is_bad k (f x) ≡ false) → (xs : List X) (d : List Said) → Good d → Good (map f xs ++ d)
harmless f fine [] d good = good
harmless f fine (x ∷ xs) d good = (fine x (known (map f xs ++ d)), harmless f fine xs d good)

-- each entry of a list of windows is found

pub pair_itself : (k : ℕ × ℕ) → is_eq (pair_cmp k k) ≡ true
pair_itself k =
    let parts : (eqb k.0 k.0 && eqb k.1 k.1) ≡ true = rw (eq-eqb k.0 k.0 refl, eq-eqb k.1 k.1 refl) refl in
    same_pair k.0 k.1 k.0 k.1 ∙ parts

pub pair_flip : (x y : ℕ × ℕ) → is_eq (pair_cmp x y) ≡ is_eq (pair_cmp y x)
pair_flip x y =
    let flipped : (eqb x.0 y.0 && eqb x.1 y.1) ≡ (eqb y.0 x.0 && eqb y.1 x.1) = rw (eqb-flip x.0 y.0, eqb-flip x.1 y.1) refl in
    same_pair x.0 x.1 y.0 y.1 ∙ flipped ∙ sym (same_pair y.0 y.1 x.0 x.1)

abbrev pub Window : Type 0 → Type 0
Window X = (ℕ × ℕ) × X

pub lifted : {X : Type 0} (x : (ℕ × ℕ) × X) (es sub : List ((ℕ × ℕ) × X)) → AllByRecursion (λ k. pair_cmp x.0 k ≡ Less) (keys_of sub) → AllByRecursion (λ e. lookup (is_at (pair_cmp e.0)) es ≡ Some e.1) sub
    → AllByRecursion (λ e. lookup (is_at (pair_cmp e.0)) (x ∷ es) ≡ Some e.1) sub
lifted x es [] less found = tt
lifted x es (e ∷ sub) less found =
    (ap (λ b. cond b (Some x.1) (lookup (is_at (pair_cmp e.0)) es)) (pair_flip e.0 x.0 ∙ ap is_eq less.0) ∙ found.0, lifted x es sub less.1 found.1)

pub all_found : {X : Type 0} (es : List ((ℕ × ℕ) × X)) → IsStrictlySortedBy pair_cmp (keys_of es) → AllByRecursion (λ e. lookup (is_at (pair_cmp e.0)) es ≡ Some e.1) es
all_found [] order = tt
all_found (x ∷ es) order =
    (ap (λ b. cond b (Some x.1) (lookup (is_at (pair_cmp x.0)) es)) (pair_itself x.0), lifted x es es (sorted_head pair_cmp x.0 (keys_of es) order) (all_found es (sorted_tail pair_cmp x.0 (keys_of es) order)))

-- lists of what may be said

pub all_mapped : {X : Type 0} (P : X → Type 0) (f : X → Said) → ((x : X) → P x → IsSaid (f x)) → (xs : List X) → AllByRecursion P xs → AllSaid (map f xs)
all_mapped P f each [] all = tt
all_mapped P f each (x ∷ xs) all = (each x all.0, all_mapped P f each xs all.1)

pub all_joined : {X : Type 0} (P : X → Type 0) (xs ys : List X) → AllByRecursion P xs → AllByRecursion P ys → AllByRecursion P (xs ++ ys)
all_joined P [] ys all others = others
all_joined P (x ∷ xs) ys all others = (all.0, all_joined P xs ys all.1 others)

pub all_turned : {X : Type 0} (P : X → Type 0) (xs : List X) → AllByRecursion P xs → AllByRecursion P (reverse xs)
all_turned P [] all = tt
all_turned P (x ∷ xs) all = rw (reverse-append (x ∷ []) xs) (all_joined P (reverse xs) (x ∷ []) (all_turned P xs all.1) (all.0, tt))

pub map_turned : {X : Type 0} (f : X → Said) (xs : List X) → reverse (map f xs) ≡ map f (reverse xs)
map_turned f [] = refl
map_turned f (x ∷ xs) =
    reverse-append (f x ∷ []) (map f xs) ∙ ap (λ ss. ss ++ f x ∷ []) (map_turned f xs) ∙ sym (ap (map f) (reverse-append (x ∷ []) xs) ∙ map-append f (reverse xs) (x ∷ []))
