-- Places that stand in order by group, cut into pieces: each piece may be said, and together they have each place once.
use Rattle.std.proofs.Common.{◌≡◌, ℕ, suc, ◌<◌, ◌≤◌, ◌&&◌, Bool, true, false, cond, eqb, leb, ltb, List, [], ◌∷◌, ◌++◌, length, Option, Some, None, refl, sym, ap, subst, ◌∙◌, inl, inr, ◌⊎◌, arith}
use Rattle.std.specs.Prelude.{is_some}
use Rattle.std.specs.List.{AllByRecursion, list_all}
use Rattle.std.specs.Option.{option_or}
use Rattle.std.specs.Ordering.{nat_cmp, is_eq}
use Rattle.std.specs.declared.cmp.Ordering.TheVariants.{Less, Greater}
use Rattle.std.specs.Map.{lookup, keys_of}
use Rattle.std.specs.BTreeMap.{is_at}
use Rattle.std.specs.List.Sorted.{IsStrictlySortedBy}
use Rattle.std.proofs.lemmas.Bool.{and_parts, and_from, cases_Bool, eqb-true, eq-eqb, leb-true, le-leb, ltb-true, lt-ltb, cases_order, le-ltb, ne_eqb}
use Rattle.std.proofs.lemmas.List.{length-append}
use Rattle.std.proofs.lemmas.List.Folds.{list_all-append}
use Rattle.std.proofs.lemmas.Map.Keys.{sorted_head, sorted_tail}
use Rattle.esm_journal_record.specs.Payload.{AreNamed, is_place, rises_from}
use Rattle.esm_journal_state.specs.Pieces.{Key, Entry, key_cmp, Piece, piece_of, has_room, grown, piece_after, pieces_after}
use Rattle.esm_journal_state.specs.Compact.{IsListing}
use Rattle.esm_journal_state.specs.Meaning.{text_named, only_at}
use Rattle.esm_journal_state.proofs.Finding.{eqb-flip}
use Rattle.esm_journal_state.proofs.Regrouping.{same_key}

-- words

-- the place stands with the text
abbrev pub Pair : List ℕ → List (List ℕ) → ℕ → List ℕ → Type 0
Pair [] texts i t = ⊥
Pair (place ∷ places) [] i t = ⊥
Pair (place ∷ places) (text ∷ texts) i t = ((place ≡ i) × (text ≡ t)) ⊎ Pair places texts i t

-- the entry is among them
abbrev pub Has : List Entry → Key → List ℕ → Type 0
Has [] q t = ⊥
Has (e ∷ es) q t = ((e.0 ≡ q) × (e.1 ≡ t)) ⊎ Has es q t

-- the text with which the newest piece of the shard that names a place names it
abbrev pub text_by : List Piece → ℕ → ℕ → Option (List ℕ)
text_by [] a i = None
text_by (p ∷ ps) a i = option_or (only_at (eqb p.group.0 a) (text_named p.places p.texts i)) (text_by ps a i)

-- no piece names a place that an older one of its shard names
abbrev pub Fresh : List Piece → Type 0
Fresh [] = Unit {0}
Fresh (p ∷ ps) = ((i : ℕ) (t : List ℕ) → Pair p.places p.texts i t → text_by ps p.group.0 i ≡ None) × Fresh ps

-- a piece of what the look-up finds
pub record IsPiece (is_text : List ℕ → Bool) (look : Key → Option (List ℕ)) (p : Piece) : Type 0 where
  pub named : AreNamed is_text p.places p.texts
  pub sound : (i : ℕ) (t : List ℕ) → Pair p.places p.texts i t → look (p.group, i) ≡ Some t

-- the newest piece is of the newest entry's group, and has no greater place
abbrev HeadIs : List Entry → List Piece → Type 0
HeadIs seen [] = Unit {0}
HeadIs [] (p ∷ ps) = ⊥
HeadIs (e ∷ seen) (p ∷ ps) = (p.group ≡ e.0.0) × (list_all (λ i. leb i e.0.1) p.places ≡ true)

record Cut (is_text : List ℕ → Bool) (look : Key → Option (List ℕ)) (seen : List Entry) (ps : List Piece) : Type 0 where
  pieces : AllByRecursion (IsPiece is_text look) ps
  fresh : Fresh ps
  cover : (q : Key) (t : List ℕ) → Has seen q t → is_some (text_by ps q.0.0 q.1) ≡ true
  from : (a i : ℕ) (t : List ℕ) → text_by ps a i ≡ Some t → (b : ℕ) × (u : List ℕ) × Has seen ((a, b), i) u
  known : (q : Key) (t : List ℕ) → Has seen q t → look q ≡ Some t
  head : HeadIs seen ps

-- the entries, newest first, put onto others
abbrev onto : List Entry → List Entry → List Entry
onto seen [] = seen
onto seen (e ∷ es) = onto (e ∷ seen) es

-- the pieces name what the look-up finds, each place once
pub record IsCut (is_text : List ℕ → Bool) (look : Key → Option (List ℕ)) (ps : List Piece) : Type 0 where
  pub pieces : AllByRecursion (IsPiece is_text look) ps
  pub fresh : Fresh ps
  pub cover : (q : Key) (t : List ℕ) → look q ≡ Some t → is_some (text_by ps q.0.0 q.1) ≡ true

-- pairs

pub pair_from_named : (places : List ℕ) (texts : List (List ℕ)) (i : ℕ) (t : List ℕ) → text_named places texts i ≡ Some t → Pair places texts i t
pair_from_named [] texts i t e = absurd cc
pair_from_named (place ∷ places) [] i t e = absurd cc
pair_from_named (place ∷ places) (text ∷ texts) i t e =
    elim (cases_Bool (eqb place i)) [
      | inl hit ↦ (let same : Some text ≡ Some t = sym (ap (λ b. cond b (Some text) (text_named places texts i)) hit) ∙ e in inl (eqb-true place i hit, cc))
      | inr miss ↦ inr (pair_from_named places texts i t (sym (ap (λ b. cond b (Some text) (text_named places texts i)) miss) ∙ e))
    ]

pub named_from_pair : (places : List ℕ) (texts : List (List ℕ)) (i : ℕ) (t : List ℕ) → Pair places texts i t → is_some (text_named places texts i) ≡ true
named_from_pair [] texts i t e = absurd e
named_from_pair (place ∷ places) [] i t e = absurd e
named_from_pair (place ∷ places) (text ∷ texts) i t e =
    elim e [
      | inl here ↦ ap (λ b. is_some (cond b (Some text) (text_named places texts i))) (eq-eqb place i here.0)
      | inr there ↦ (elim (cases_Bool (eqb place i)) [
        | inl hit ↦ ap (λ b. is_some (cond b (Some text) (text_named places texts i))) hit
        | inr miss ↦ ap (λ b. is_some (cond b (Some text) (text_named places texts i))) miss ∙ named_from_pair places texts i t there
      ])
    ]

pair_of_more : (places : List ℕ) (texts : List (List ℕ)) (i : ℕ) (t : List ℕ) (place : ℕ) (text : List ℕ) → length texts ≡ length places → Pair (places ++ place ∷ []) (texts ++ text ∷ []) i t
    → Pair places texts i t ⊎ ((place ≡ i) × (text ≡ t))
pair_of_more [] [] i t place text same e = elim e [ inl here ↦ inr here | inr none ↦ absurd none ]
pair_of_more [] (x ∷ texts) i t place text same e = absurd (omega arith)
pair_of_more (x ∷ places) [] i t place text same e = absurd (omega arith)
pair_of_more (x ∷ places) (y ∷ texts) i t place text same e =
    elim e [
      | inl here ↦ inl (inl here)
      | inr there ↦
          (let fewer : length texts ≡ length places = omega arith in
          elim (pair_of_more places texts i t place text fewer there) [ inl old ↦ inl (inr old) | inr new ↦ inr new ])
    ]

pair_stays : (places : List ℕ) (texts : List (List ℕ)) (i : ℕ) (t : List ℕ) (place : ℕ) (text : List ℕ) → Pair places texts i t → Pair (places ++ place ∷ []) (texts ++ text ∷ []) i t
pair_stays [] texts i t place text e = absurd e
pair_stays (x ∷ places) [] i t place text e = absurd e
pair_stays (x ∷ places) (y ∷ texts) i t place text e = elim e [ inl here ↦ inl here | inr there ↦ inr (pair_stays places texts i t place text there) ]

pair_new : (places : List ℕ) (texts : List (List ℕ)) (place : ℕ) (text : List ℕ) → length texts ≡ length places → Pair (places ++ place ∷ []) (texts ++ text ∷ []) place text
pair_new [] [] place text same = inl (refl, refl)
pair_new [] (x ∷ texts) place text same = absurd (omega arith)
pair_new (x ∷ places) [] place text same = absurd (omega arith)
pair_new (x ∷ places) (y ∷ texts) place text same =
    let fewer : length texts ≡ length places = omega arith in inr (pair_new places texts place text fewer)

-- options

some_or : {A : Type 0} (o p : Option A) → is_some o ≡ true → is_some (option_or o p) ≡ true
some_or None p e = absurd cc
some_or (Some x) p e = refl

or_some : {A : Type 0} (o p : Option A) → is_some p ≡ true → is_some (option_or o p) ≡ true
or_some None p e = e
or_some (Some x) p e = refl

or_none : {A : Type 0} (o p : Option A) → option_or o p ≡ None → p ≡ None
or_none None p e = e
or_none (Some x) p e = absurd cc

or_cases_some : {A : Type 0} (o p : Option A) (x : A) → option_or o p ≡ Some x → (o ≡ Some x) ⊎ (p ≡ Some x)
or_cases_some None p x e = inr e
or_cases_some (Some y) p x e = inl e

only_at_some : {A : Type 0} (b : Bool) (o : Option A) (x : A) → only_at b o ≡ Some x → (b ≡ true) × (o ≡ Some x)
only_at_some true o x e = (refl, e)
only_at_some false o x e = absurd cc

some_value : {A : Type 0} (o : Option A) → is_some o ≡ true → (x : A) × (o ≡ Some x)
some_value None e = absurd cc
some_value (Some x) e = (x, refl)

named_stays : (places : List ℕ) (texts : List (List ℕ)) (i place : ℕ) (text : List ℕ) → is_some (text_named places texts i) ≡ true → is_some (text_named (places ++ place ∷ []) (texts ++ text ∷ []) i) ≡ true
named_stays places texts i place text e =
    let v = some_value (text_named places texts i) e in
    named_from_pair (places ++ place ∷ []) (texts ++ text ∷ []) i v.0 (pair_stays places texts i v.0 place text (pair_from_named places texts i v.0 v.1))

still_at : {A : Type 0} (b : Bool) (o p r : Option A) → (is_some o ≡ true → is_some p ≡ true) → is_some (option_or (only_at b o) r) ≡ true → is_some (option_or (only_at b p) r) ≡ true
still_at true None p r stays e = or_some p r e
still_at true (Some x) p r stays e = some_or p r (stays refl)
still_at false o p r stays e = e

still : (p : Piece) (e : Entry) (ps : List Piece) (a i : ℕ) → is_some (text_by (p ∷ ps) a i) ≡ true → is_some (text_by (grown p e ∷ ps) a i) ≡ true
still p e ps a i named =
    still_at (eqb p.group.0 a) (text_named p.places p.texts i) (text_named (p.places ++ e.0.1 ∷ []) (p.texts ++ e.1 ∷ []) i) (text_by ps a i) (named_stays p.places p.texts i e.0.1 e.1) named

pub none_unless : {A : Type 0} (o : Option A) → ((x : A) → o ≡ Some x → ⊥) → o ≡ None
none_unless None never = refl
none_unless (Some x) never = absurd (never x refl)

-- keys

key_itself : (q : Key) → is_eq (key_cmp q q) ≡ true
key_itself q =
    let parts : ((eqb q.0.0 q.0.0 && eqb q.0.1 q.0.1) && eqb q.1 q.1) ≡ true = rw (eq-eqb q.0.0 q.0.0 refl, eq-eqb q.0.1 q.0.1 refl, eq-eqb q.1 q.1 refl) refl in
    same_key q q ∙ parts

not_below_itself : (q : Key) → key_cmp q q ≡ Less → ⊥
not_below_itself q less =
    let same : is_eq (key_cmp q q) ≡ true = key_itself q in
    absurd cc

later_not_less : (g : ℕ × ℕ) (i j : ℕ) → j < i → key_cmp (g, i) (g, j) ≡ Less → ⊥
later_not_less g i j above less =
    let greater : key_cmp (g, i) (g, j) ≡ nat_cmp i j =
    rw (le-ltb g.0 g.0 (omega arith), eq-eqb g.0 g.0 refl, le-ltb g.1 g.1 (omega arith), eq-eqb g.1 g.1 refl) refl in
    let is : nat_cmp i j ≡ Greater = rw (le-ltb i j (omega arith), ne_eqb i j (λ e. omega arith)) refl in
    absurd cc

-- in one group a lesser key has a lesser place
place_below : (g : ℕ × ℕ) (i j : ℕ) → key_cmp (g, i) (g, j) ≡ Less → i < j
place_below g i j less =
    elim (cases_order i j) [
      | inl same ↦ absurd (not_below_itself (g, j) (sym (ap (λ k. key_cmp (g, k) (g, j)) same) ∙ less))
      | inr apart ↦ (elim apart [ inl below ↦ below | inr above ↦ absurd (later_not_less g i j above less) ])
    ]

-- places that rise

all_and : {X : Type 0} (p : X → Bool) (x : X) (xs : List X) → list_all p (x ∷ xs) ≡ true → (p x ≡ true) × (list_all p xs ≡ true)
all_and p x xs all = and_parts (p x) (list_all p xs) all

rises_more : (low : ℕ) (places : List ℕ) (place : ℕ) → rises_from low places ≡ true → low ≤ place → list_all (λ i. ltb i place) places ≡ true → rises_from low (places ++ place ∷ []) ≡ true
rises_more low [] place rising le below = and_from (leb low place) true (le-leb low place le) refl
rises_more low (x ∷ places) place rising le below =
    let r = and_parts (leb low x) (rises_from (suc x) places) rising in
    let b = all_and (λ i. ltb i place) x places below in
    and_from (leb low x) (rises_from (suc x) (places ++ place ∷ [])) r.0 (rises_more (suc x) places place r.1 (omega (arith, ltb-true x place b.0)) b.1)

all_weaker : (p q : ℕ → Bool) → ((i : ℕ) → p i ≡ true → q i ≡ true) → (places : List ℕ) → list_all p places ≡ true → list_all q places ≡ true
all_weaker p q weaker [] all = refl
all_weaker p q weaker (x ∷ places) all = let a = all_and p x places all in and_from (q x) (list_all q places) (weaker x a.0) (all_weaker p q weaker places a.1)

all_more : {X : Type 0} (p : X → Bool) (xs : List X) (x : X) → list_all p xs ≡ true → p x ≡ true → list_all p (xs ++ x ∷ []) ≡ true
all_more p xs x all one = list_all-append p xs (x ∷ []) ∙ and_from (list_all p xs) (p x && true) all (and_from (p x) true one refl)

-- look-ups among entries

has_onto : (es seen : List Entry) (q : Key) (t : List ℕ) → Has es q t ⊎ Has seen q t → Has (onto seen es) q t
has_onto [] seen q t has = elim has [ inl here ↦ absurd here | inr there ↦ there ]
has_onto (e ∷ es) seen q t has =
    has_onto es (e ∷ seen) q t (elim has [
      | inl here ↦ (elim here [ inl is ↦ inr (inl is) | inr later ↦ inl later ])
      | inr there ↦ inr (inr there)
    ])

key_from_same : (x q : Key) → is_eq (key_cmp q x) ≡ true → x ≡ q
key_from_same x q same =
    let a = and_parts (eqb q.0.0 x.0.0 && eqb q.0.1 x.0.1) (eqb q.1 x.1) (sym (same_key q x) ∙ same) in
    let b = and_parts (eqb q.0.0 x.0.0) (eqb q.0.1 x.0.1) a.0 in
    sym (ap (λ n. ((n, q.0.1), q.1)) (eqb-true q.0.0 x.0.0 b.0) ∙ ap (λ n. ((x.0.0, n), q.1)) (eqb-true q.0.1 x.0.1 b.1) ∙ ap (λ n. ((x.0.0, x.0.1), n)) (eqb-true q.1 x.1 a.1))

has_from_lookup : (es : List Entry) (q : Key) (t : List ℕ) → lookup (is_at (key_cmp q)) es ≡ Some t → Has es q t
has_from_lookup [] q t e = absurd cc
has_from_lookup (x ∷ es) q t e =
    elim (cases_Bool (is_eq (key_cmp q x.0))) [
      | inl hit ↦ (let same : Some x.1 ≡ Some t = sym (ap (λ b. cond b (Some x.1) (lookup (is_at (key_cmp q)) es)) hit) ∙ e in inl (key_from_same x.0 q hit, cc))
      | inr miss ↦ inr (has_from_lookup es q t (sym (ap (λ b. cond b (Some x.1) (lookup (is_at (key_cmp q)) es)) miss) ∙ e))
    ]

itself_found : (x : Entry) (es : List Entry) → lookup (is_at (key_cmp x.0)) (x ∷ es) ≡ Some x.1
itself_found x es =
    ap (λ b. cond b (Some x.1) (lookup (is_at (key_cmp x.0)) es)) (key_itself x.0)

key_flip : (x q : Key) → is_eq (key_cmp x q) ≡ is_eq (key_cmp q x)
key_flip x q = same_key x q ∙ rw (eqb-flip x.0.0 q.0.0, eqb-flip x.0.1 q.0.1, eqb-flip x.1 q.1) refl ∙ sym (same_key q x)

lifted : (x : Entry) (es sub : List Entry) → AllByRecursion (λ k. key_cmp x.0 k ≡ Less) (keys_of sub) → AllByRecursion (λ e. lookup (is_at (key_cmp e.0)) es ≡ Some e.1) sub
    → AllByRecursion (λ e. lookup (is_at (key_cmp e.0)) (x ∷ es) ≡ Some e.1) sub
lifted x es [] less found = tt
lifted x es (e ∷ sub) less found =
    (ap (λ b. cond b (Some x.1) (lookup (is_at (key_cmp e.0)) es)) (key_flip e.0 x.0 ∙ ap is_eq less.0) ∙ found.0, lifted x es sub less.1 found.1)

all_found : (es : List Entry) → IsStrictlySortedBy key_cmp (keys_of es) → AllByRecursion (λ e. lookup (is_at (key_cmp e.0)) es ≡ Some e.1) es
all_found [] order = tt
all_found (x ∷ es) order = (itself_found x es, lifted x es es (sorted_head key_cmp x.0 (keys_of es) order) (all_found es (sorted_tail key_cmp x.0 (keys_of es) order)))

turned_all : (look : Key → Option (List ℕ)) (es sub : List Entry) → ((q : Key) (t : List ℕ) → lookup (is_at (key_cmp q)) es ≡ Some t → look q ≡ Some t)
    → AllByRecursion (λ e. lookup (is_at (key_cmp e.0)) es ≡ Some e.1) sub → AllByRecursion (λ e. look e.0 ≡ Some e.1) sub
turned_all look es [] turn found = tt
turned_all look es (e ∷ sub) turn found = (turn e.0 e.1 found.0, turned_all look es sub turn found.1)

found_all : (es : List Entry) (look : Key → Option (List ℕ)) → IsStrictlySortedBy key_cmp (keys_of es) → ((q : Key) (t : List ℕ) → lookup (is_at (key_cmp q)) es ≡ Some t → look q ≡ Some t)
    → AllByRecursion (λ e. look e.0 ≡ Some e.1) es
found_all es look order turn = turned_all look es es turn (all_found es order)

module _ (is_text : List ℕ → Bool) (look : Key → Option (List ℕ))
    (valid : (q : Key) (t : List ℕ) → look q ≡ Some t → (is_place q.1 ≡ true) × (is_text t ≡ true))
    (one_group : (a b c i : ℕ) (t u : List ℕ) → look ((a, b), i) ≡ Some t → look ((a, c), i) ≡ Some u → b ≡ c) where
  -- the pieces so far do not name the place of the next entry
  next_free : (seen : List Entry) (ps : List Piece) (e : Entry) → Cut is_text look seen ps → look e.0 ≡ Some e.1 → ((q : Key) (t : List ℕ) → Has seen q t → key_cmp q e.0 ≡ Less) → text_by ps e.0.0.0 e.0.1 ≡ None
  next_free seen ps e cut found below =
      none_unless (text_by ps e.0.0.0 e.0.1) (λ t named.
      let f = cut.from e.0.0.0 e.0.1 t named in
      let group : f.0 ≡ e.0.0.1 = one_group e.0.0.0 f.0 e.0.0.1 e.0.1 f.1 e.1 (cut.known ((e.0.0.0, f.0), e.0.1) f.1 f.2) found in
      not_below_itself e.0 (subst (λ b. key_cmp ((e.0.0.0, b), e.0.1) e.0 ≡ Less) group (below ((e.0.0.0, f.0), e.0.1) f.1 f.2)))

  one_named : (e : Entry) → look e.0 ≡ Some e.1 → AreNamed is_text (e.0.1 ∷ []) (e.1 ∷ [])
  one_named e found =
      let v = valid e.0 e.1 found in
      record {
        some = omega arith;
        few = omega arith;
        small = and_from (is_place e.0.1) true v.0 refl;
        rising = and_from (leb 0 e.0.1) true (le-leb 0 e.0.1 (omega arith)) refl;
        same = refl;
        spelled = and_from (is_text e.1) true v.1 refl;
      }

  one_sound : (e : Entry) → look e.0 ≡ Some e.1 → (i : ℕ) (t : List ℕ) → Pair (e.0.1 ∷ []) (e.1 ∷ []) i t → look (e.0.0, i) ≡ Some t
  one_sound e found i t pair = elim pair [ inl here ↦ sym (ap (λ j. look (e.0.0, j)) here.0) ∙ found ∙ ap (λ x. Some x) here.1 | inr none ↦ absurd none ]

  started : (seen : List Entry) (ps : List Piece) (e : Entry) → Cut is_text look seen ps → look e.0 ≡ Some e.1 → ((q : Key) (t : List ℕ) → Has seen q t → key_cmp q e.0 ≡ Less) → Cut is_text look (e ∷ seen) (piece_of e ∷ ps)
  started seen ps e cut found below = record {
    pieces = (record { named = one_named e found; sound = one_sound e found }, cut.pieces);
    fresh = (λ i t pair. elim pair [ inl here ↦ sym (ap (λ j. text_by ps e.0.0.0 j) here.0) ∙ next_free seen ps e cut found below | inr none ↦ absurd none ], cut.fresh);
    cover = λ q t has. elim has [
      | inl here ↦
          ap (λ k. is_some (text_by (piece_of e ∷ ps) k.0.0 k.1)) (sym here.0)
          ∙ some_or (only_at (eqb e.0.0.0 e.0.0.0) (text_named (e.0.1 ∷ []) (e.1 ∷ []) e.0.1)) (text_by ps e.0.0.0 e.0.1)
          (rw (eq-eqb e.0.0.0 e.0.0.0 refl, eq-eqb e.0.1 e.0.1 refl) refl)
      | inr there ↦ or_some (only_at (eqb e.0.0.0 q.0.0) (text_named (e.0.1 ∷ []) (e.1 ∷ []) q.1)) (text_by ps q.0.0 q.1) (cut.cover q t there)
    ];
    from = λ a i t named. elim (or_cases_some (only_at (eqb e.0.0.0 a) (text_named (e.0.1 ∷ []) (e.1 ∷ []) i)) (text_by ps a i) t named) [
      | inl here ↦
          (let o = only_at_some (eqb e.0.0.0 a) (text_named (e.0.1 ∷ []) (e.1 ∷ []) i) t here in
          let pair = pair_from_named (e.0.1 ∷ []) (e.1 ∷ []) i t o.1 in
          elim pair [
            | inl is ↦ (e.0.0.1, e.1, inl (ap (λ x. ((x, e.0.0.1), e.0.1)) (eqb-true e.0.0.0 a o.0) ∙ ap (λ j. ((a, e.0.0.1), j)) is.0, refl))
            | inr none ↦ absurd none
          ])
      | inr there ↦ (let f = cut.from a i t there in (f.0, f.1, inr f.2))
    ];
    known = λ q t has. elim has [ inl here ↦ sym (ap look here.0) ∙ found ∙ ap (λ x. Some x) here.1 | inr there ↦ cut.known q t there ];
    head = (refl, and_from (leb e.0.1 e.0.1) true (le-leb e.0.1 e.0.1 (omega arith)) refl);
  }

  -- the newest piece takes the next entry
  grew : (d e : Entry) (seen : List Entry) (p : Piece) (ps : List Piece) → Cut is_text look (d ∷ seen) (p ∷ ps) → look e.0 ≡ Some e.1 → ((q : Key) (t : List ℕ) → Has (d ∷ seen) q t → key_cmp q e.0 ≡ Less)
      → p.group ≡ e.0.0 → length p.places < 10000 → Cut is_text look (e ∷ d ∷ seen) (grown p e ∷ ps)
  grew d e seen p ps cut found below group room =
      let v = valid e.0 e.1 found in
      let old = cut.pieces.0 in
      let d_group : d.0.0 ≡ e.0.0 = sym cut.head.0 ∙ group in
      let d_below : d.0.1 < e.0.1 = place_below e.0.0 d.0.1 e.0.1 (subst (λ g. key_cmp (g, d.0.1) e.0 ≡ Less) d_group (below d.0 d.1 (inl (refl, refl)))) in
      let all_below : list_all (λ i. ltb i e.0.1) p.places ≡ true =
      all_weaker (λ i. leb i d.0.1) (λ i. ltb i e.0.1) (λ i le. lt-ltb i e.0.1 (omega (arith, leb-true i d.0.1 le))) p.places cut.head.1 in
      let more = length-append p.places (e.0.1 ∷ []) in
      let more_texts = length-append p.texts (e.1 ∷ []) in
      let free : text_by (p ∷ ps) e.0.0.0 e.0.1 ≡ None = next_free (d ∷ seen) (p ∷ ps) e cut found below in
      let free_before : text_by ps p.group.0 e.0.1 ≡ None =
      ap (λ g. text_by ps g.0 e.0.1) group ∙ or_none (only_at (eqb p.group.0 e.0.0.0) (text_named p.places p.texts e.0.1)) (text_by ps e.0.0.0 e.0.1) free in
      let named : AreNamed is_text (p.places ++ e.0.1 ∷ []) (p.texts ++ e.1 ∷ []) = record {
        some = omega arith;
        few = omega arith;
        small = all_more is_place p.places e.0.1 old.named.small v.0;
        rising = rises_more 0 p.places e.0.1 old.named.rising (omega arith) all_below;
        same = omega (arith, more, more_texts, old.named.same);
        spelled = all_more is_text p.texts e.1 old.named.spelled v.1;
      } in
      record {
        pieces = (
          record {
            named = named;
            sound = λ i t pair. elim (pair_of_more p.places p.texts i t e.0.1 e.1 old.named.same pair) [
              | inl before ↦ old.sound i t before
              | inr new ↦ ap (λ g. look (g, i)) group ∙ sym (ap (λ j. look (e.0.0, j)) new.0) ∙ found ∙ ap (λ x. Some x) new.1
            ];
          },
          cut.pieces.1,
        );
        fresh = (
          λ i t pair. elim (pair_of_more p.places p.texts i t e.0.1 e.1 old.named.same pair) [
            | inl before ↦ cut.fresh.0 i t before
            | inr new ↦ sym (ap (λ j. text_by ps p.group.0 j) new.0) ∙ free_before
          ],
          cut.fresh.1,
        );
        cover = λ q t has. elim has [
          | inl here ↦
              ap (λ k. is_some (text_by (grown p e ∷ ps) k.0.0 k.1)) (sym here.0)
              ∙ some_or (only_at (eqb p.group.0 e.0.0.0) (text_named (p.places ++ e.0.1 ∷ []) (p.texts ++ e.1 ∷ []) e.0.1)) (text_by ps e.0.0.0 e.0.1)
              (ap (λ b. is_some (only_at b (text_named (p.places ++ e.0.1 ∷ []) (p.texts ++ e.1 ∷ []) e.0.1))) (eq-eqb p.group.0 e.0.0.0 (ap (λ (g : ℕ × ℕ). g.0) group))
              ∙ named_from_pair (p.places ++ e.0.1 ∷ []) (p.texts ++ e.1 ∷ []) e.0.1 e.1 (pair_new p.places p.texts e.0.1 e.1 old.named.same))
          | inr there ↦ still p e ps q.0.0 q.1 (cut.cover q t there)
        ];
        from = λ a i t by. elim (or_cases_some (only_at (eqb p.group.0 a) (text_named (p.places ++ e.0.1 ∷ []) (p.texts ++ e.1 ∷ []) i)) (text_by ps a i) t by) [
          | inl here ↦
              (let o = only_at_some (eqb p.group.0 a) (text_named (p.places ++ e.0.1 ∷ []) (p.texts ++ e.1 ∷ []) i) t here in
              let in_a : p.group.0 ≡ a = eqb-true p.group.0 a o.0 in
              elim (pair_of_more p.places p.texts i t e.0.1 e.1 old.named.same (pair_from_named (p.places ++ e.0.1 ∷ []) (p.texts ++ e.1 ∷ []) i t o.1)) [
                | inl before ↦ (let at : is_some (only_at (eqb p.group.0 a) (text_named p.places p.texts i)) ≡ true =
                    ap (λ b. is_some (only_at b (text_named p.places p.texts i))) (eq-eqb p.group.0 a in_a) ∙ named_from_pair p.places p.texts i t before in
                    let s = some_value (text_by (p ∷ ps) a i) (some_or (only_at (eqb p.group.0 a) (text_named p.places p.texts i)) (text_by ps a i) at) in
                    let f = cut.from a i s.0 s.1 in
                    (f.0, f.1, inr f.2))
                | inr new ↦ (e.0.0.1, e.1, inl (ap (λ x. ((x, e.0.0.1), e.0.1)) (sym (ap (λ (g : ℕ × ℕ). g.0) group) ∙ in_a) ∙ ap (λ j. ((a, e.0.0.1), j)) new.0, refl))
              ])
          | inr there ↦ (let s = some_value (text_by (p ∷ ps) a i) (or_some (only_at (eqb p.group.0 a) (text_named p.places p.texts i)) (text_by ps a i) (ap is_some there)) in
              let f = cut.from a i s.0 s.1 in
              (f.0, f.1, inr f.2))
        ];
        known = λ q t has. elim has [ inl here ↦ sym (ap look here.0) ∙ found ∙ ap (λ x. Some x) here.1 | inr there ↦ cut.known q t there ];
        head = (group, all_more (λ i. leb i e.0.1) p.places e.0.1 (all_weaker (λ i. ltb i e.0.1) (λ i. leb i e.0.1) (λ i lt. le-leb i e.0.1 (omega (arith, ltb-true i e.0.1 lt))) p.places all_below) (le-leb e.0.1 e.0.1 (omega arith)));
      }

  step : (seen : List Entry) (ps : List Piece) (e : Entry) → Cut is_text look seen ps → look e.0 ≡ Some e.1 → ((q : Key) (t : List ℕ) → Has seen q t → key_cmp q e.0 ≡ Less) → Cut is_text look (e ∷ seen) (piece_after ps e)
  step seen [] e cut found below = started seen [] e cut found below
  step [] (p ∷ ps) e cut found below = absurd cut.head
  step (d ∷ seen) (p ∷ ps) e cut found below =
      elim (cases_Bool (has_room p e.0.0)) [
        | inl room ↦
            (let r = and_parts (eqb p.group.0 e.0.0.0 && eqb p.group.1 e.0.0.1) (ltb (length p.places) 10000) room in
            let g = and_parts (eqb p.group.0 e.0.0.0) (eqb p.group.1 e.0.0.1) r.0 in
            let group : p.group ≡ e.0.0 = ap (λ a. (a, p.group.1)) (eqb-true p.group.0 e.0.0.0 g.0) ∙ ap (λ b. (e.0.0.0, b)) (eqb-true p.group.1 e.0.0.1 g.1) in
            subst (λ b. Cut is_text look (e ∷ d ∷ seen) (cond b (grown p e ∷ ps) (piece_of e ∷ p ∷ ps))) (sym room)
            (grew d e seen p ps cut found below group (ltb-true (length p.places) 10000 r.1)))
        | inr full ↦ subst (λ b. Cut is_text look (e ∷ d ∷ seen) (cond b (grown p e ∷ ps) (piece_of e ∷ p ∷ ps))) (sym full) (started (d ∷ seen) (p ∷ ps) e cut found below)
      ]

  after : (es seen : List Entry) (ps : List Piece) → Cut is_text look seen ps → IsStrictlySortedBy key_cmp (keys_of es) → AllByRecursion (λ e. look e.0 ≡ Some e.1) es
      → ((q : Key) (t : List ℕ) → Has seen q t → AllByRecursion (λ k. key_cmp q k ≡ Less) (keys_of es)) → Cut is_text look (onto seen es) (pieces_after ps es)
  after [] seen ps cut order found ahead = cut
  after (e ∷ es) seen ps cut order found ahead =
      after es (e ∷ seen) (piece_after ps e) (step seen ps e cut found.0 (λ q t has. (ahead q t has).0)) (sorted_tail key_cmp e.0 (keys_of es) order) found.1
      (λ q t has. elim has [
        | inl here ↦ subst (λ k. AllByRecursion (λ j. key_cmp k j ≡ Less) (keys_of es)) here.0 (sorted_head key_cmp e.0 (keys_of es) order)
        | inr there ↦ (ahead q t there).1
      ])

  nothing_cut : Cut is_text look [] []
  nothing_cut = record {
    pieces = tt;
    fresh = tt;
    cover = λ q t has. absurd has;
    from = λ a i t named. absurd cc;
    known = λ q t has. absurd has;
    head = tt;
  }

  -- the pieces of entries that list what the look-up finds
  pub cut : (es : List Entry) → IsListing key_cmp es look → IsCut is_text look (pieces_after [] es)
  cut es listing =
      let all = after es [] [] nothing_cut listing.order (found_all es look listing.order (λ q t e. sym (listing.has q) ∙ e)) (λ q t has. absurd has) in
      record {
        pieces = all.pieces;
        fresh = all.fresh;
        cover = λ q t e. all.cover q t (has_onto es [] q t (inl (has_from_lookup es q t (listing.has q ∙ e))));
      }
