-- The fields of a payload read what is spelled so, and that alone.
use Rattle.std.proofs.Common.{◌≡◌, ℕ, zero, suc, ◌^◌, ◌<◌, ◌≤◌, Bool, true, cond, leb, eqb, List, [], ◌∷◌, ◌++◌, length, Option, Some, None, refl, sym, ap, subst, ◌∙◌, append_assoc, arith, inl, inr}
use Rattle.std.specs.Prelude.{IfSome}
use Rattle.std.specs.List.{list_all}
use Rattle.std.specs.Int.{w32, w64}
use Rattle.std.proofs.lemmas.Bool.{and_parts, and_from, leb-true, le-leb, ltb-true, lt-ltb, eqb-true}
use Rattle.std.proofs.lemmas.Option.{cond_some}
use Rattle.esm_model.specs.declared.limits.TheConstants.{MAX_SHARD, MAX_DATA, MAX_TRIES}
use Rattle.esm_model.specs.declared.moment.TheConstants.{MAX_MOMENT}
use Rattle.esm_model.specs.Valid.{is_between}
use Rattle.esm_model.specs.declared.entry.Fate.{Fate}
use Rattle.esm_model.specs.declared.entry.Fate.TheVariants.{Succeeded, Filtered, Expired, Exhausted}
use Rattle.esm_model.specs.declared.entry.WindowState.{WindowState}
use Rattle.esm_journal_record.specs.declared.names.Named.{Named}
use Rattle.esm_journal_record.specs.Payload.{eight, four, fate_byte, text_bytes, flagged_bytes, name_bytes, names_bytes, named_bytes, rises, is_place, IsShard, IsMoment, IsTries, IsState, AreNamed}
use Rattle.esm_journal_record.specs.Parsing.{◌>>=◌, ◌⊗◌, only, made, number_at, byte_at, taken, shard_at, moment_at, tries_at, fate_of, fate_at, text_at, state_of, flagged_at, name_at, names_at, named_at}
use Rattle.esm_journal_record.proofs.Fields.{IsBytes, IsBytes-rest, bind_some, some_is, chosen, Took, Took-then, Reads, Reads-as, Reads-both, Reads-only, wide32, wide64, number_reads, byte_reads, taken_takes, taken_again}

-- numbers

u64_reads : Reads ℕ (number_at w64) eight (λ n. n < 2 ^ 64)
unfolding eight
u64_reads = number_reads w64 (2 ^ 64) wide64

u32_reads : Reads ℕ (number_at w32) four (λ n. n < 2 ^ 32)
unfolding four
u32_reads = number_reads w32 (2 ^ 32) wide32

shard_small : (n : ℕ) → IsShard n → n < 2 ^ 64
shard_small n h = omega arith

pub shard_reads : Reads ℕ shard_at eight IsShard
unfolding shard_at
shard_reads =
    Reads-as shard_at eight (λ n. (n < 2 ^ 64) × (leb n MAX_SHARD ≡ true)) IsShard (λ n h. leb-true n MAX_SHARD h.1) (λ n h. (shard_small n h, le-leb n MAX_SHARD h))
    (Reads-only (number_at w64) eight (λ n. n < 2 ^ 64) (λ n. leb n MAX_SHARD) u64_reads)

moment_small : (n : ℕ) → IsMoment n → n < 2 ^ 64
moment_small n h = omega arith

pub moment_reads : Reads ℕ moment_at eight IsMoment
unfolding moment_at
moment_reads =
    Reads-as moment_at eight (λ n. (n < 2 ^ 64) × (leb n MAX_MOMENT ≡ true)) IsMoment (λ n h. leb-true n MAX_MOMENT h.1) (λ n h. (moment_small n h, le-leb n MAX_MOMENT h))
    (Reads-only (number_at w64) eight (λ n. n < 2 ^ 64) (λ n. leb n MAX_MOMENT) u64_reads)

tries_small : (n : ℕ) → IsTries n → n < 2 ^ 32
tries_small n h = omega (arith, leb-true n MAX_TRIES (and_parts (leb 1 n) (leb n MAX_TRIES) h).1)

pub tries_reads : Reads ℕ tries_at four IsTries
unfolding tries_at
tries_reads =
    Reads-as tries_at four (λ n. (n < 2 ^ 32) × IsTries n) IsTries (λ n h. h.1) (λ n h. (tries_small n h, h))
    (Reads-only (number_at w32) four (λ n. n < 2 ^ 32) (is_between 1 MAX_TRIES) u32_reads)

-- fates

abbrev after : Bool → Fate → Option Fate → Option Fate
after b fate others = cond b (Some fate) others

fate_of_is : (n : ℕ) (fate : Fate) → fate_of n ≡ Some fate → n ≡ fate_byte fate
fate_of_is n fate e =
    elim (chosen (eqb n 1) (Some Succeeded) (after (eqb n 2) Filtered (after (eqb n 3) Expired (after (eqb n 4) Exhausted None))) (Some fate) e) [
      | inl is ↦ eqb-true n 1 is.0 ∙ ap fate_byte (some_is Succeeded fate is.1)
      | inr not-1 ↦ (elim (chosen (eqb n 2) (Some Filtered) (after (eqb n 3) Expired (after (eqb n 4) Exhausted None)) (Some fate) not-1.1) [
        | inl is ↦ eqb-true n 2 is.0 ∙ ap fate_byte (some_is Filtered fate is.1)
        | inr not-2 ↦ (elim (chosen (eqb n 3) (Some Expired) (after (eqb n 4) Exhausted None) (Some fate) not-2.1) [
          | inl is ↦ eqb-true n 3 is.0 ∙ ap fate_byte (some_is Expired fate is.1)
          | inr not-3 ↦ (elim (chosen (eqb n 4) (Some Exhausted) None (Some fate) not-3.1) [
            | inl is ↦ eqb-true n 4 is.0 ∙ ap fate_byte (some_is Exhausted fate is.1)
            | inr not-4 ↦ absurd cc
          ])
        ])
      ])
    ]

fate_of_again : (fate : Fate) → fate_of (fate_byte fate) ≡ Some fate
fate_of_again Succeeded = refl
fate_of_again Filtered = refl
fate_of_again Expired = refl
fate_of_again Exhausted = refl

pub fate_reads : Reads Fate fate_at (λ fate. fate_byte fate ∷ []) (λ fate. Unit {0})
unfolding fate_at byte_at
fate_reads = record {
  takes = λ bytes fate rest fits e.
      let a = bind_some (byte_at bytes) (λ b. fate_of b.0 >>= λ f. Some (f, b.1)) (fate, rest) e in
      let b = bind_some (fate_of a.0.0) (λ f. Some (f, a.0.1)) (fate, rest) a.2 in
      let t = byte_reads.takes bytes a.0.0 a.0.1 fits a.1 in
      let is = some_is (b.0, a.0.1) (fate, rest) b.2 in
      subst (λ (z : Fate × List ℕ). Took bytes (fate_byte z.0 ∷ []) z.1 × Unit {0}) is
      (subst (λ n. Took bytes (n ∷ []) a.0.1) (fate_of_is a.0.0 b.0 b.1) t.0, tt);
  again = λ fate rest holds. rw (fate_of_again fate) refl;
}

-- texts and states

count_small : (n : ℕ) → n ≤ MAX_DATA → n < 2 ^ 32
count_small n h = omega arith

data_count_reads : Reads ℕ (only (λ n. leb n MAX_DATA) (number_at w32)) four (λ n. (n < 2 ^ 32) × (leb n MAX_DATA ≡ true))
data_count_reads = Reads-only (number_at w32) four (λ n. n < 2 ^ 32) (λ n. leb n MAX_DATA) u32_reads

pub text_reads : Reads (List ℕ) text_at text_bytes (λ text. length text ≤ MAX_DATA)
unfolding text_at
text_reads = record {
  takes = λ bytes text rest fits e.
      let a = bind_some (only (λ n. leb n MAX_DATA) (number_at w32) bytes) (λ n. taken n.0 n.1) (text, rest) e in
      let t = data_count_reads.takes bytes a.0.0 a.0.1 fits a.1 in
      let u = taken_takes a.0.0 a.0.1 text rest t.0.fits a.2 in (
        subst (λ n. Took bytes (four n ++ text) rest) (sym u.1) (Took-then bytes (four a.0.0) a.0.1 text rest t.0 u.0),
        omega (arith, leb-true a.0.0 MAX_DATA t.1.1, u.1),
      );
  again = λ text rest holds.
      ap text_at (append_assoc (four (length text)) text rest)
      ∙ rw (data_count_reads.again (length text) (text ++ rest) (count_small (length text) holds, le-leb (length text) MAX_DATA holds), taken_again (length text) text rest refl) refl;
}

window_reads : Reads (ℕ × List ℕ) (moment_at ⊗ text_at) (λ x. eight x.0 ++ text_bytes x.1) (λ x. IsMoment x.0 × (length x.1 ≤ MAX_DATA))
window_reads = Reads-both moment_at text_at eight text_bytes IsMoment (λ text. length text ≤ MAX_DATA) moment_reads text_reads

abbrev stated : ℕ × List ℕ → Option WindowState
stated x = Some (state_of x)

flagged_takes : (bytes : List ℕ) (state : Option WindowState) (rest : List ℕ) → IsBytes bytes → flagged_at bytes ≡ Some (state, rest) → Took bytes (flagged_bytes state) rest × IfSome state IsState
unfolding flagged_at byte_at
flagged_takes [] state rest fits e = absurd cc
flagged_takes (flag ∷ bytes) state rest fits e =
    elim (chosen (eqb flag 0) (Some (None, bytes)) (cond (eqb flag 1) (made stated (moment_at ⊗ text_at) bytes) None) (Some (state, rest)) e) [
      | inl none ↦
          (let is = some_is (None, bytes) (state, rest) none.1 in
          let zero_flag : flag ∷ bytes ≡ 0 ∷ bytes = ap (λ n. n ∷ bytes) (eqb-true flag 0 none.0) in
          subst (λ (z : Option WindowState × List ℕ). Took (flag ∷ bytes) (flagged_bytes z.0) z.1 × IfSome z.0 IsState) is
          (record { parts = zero_flag; fits = IsBytes-rest flag bytes fits }, tt))
      | inr other ↦ (elim (chosen (eqb flag 1) (made stated (moment_at ⊗ text_at) bytes) None (Some (state, rest)) other.1) [
        | inl some ↦
            (let a = bind_some ((moment_at ⊗ text_at) bytes) (λ x. Some (stated x.0, x.1)) (state, rest) some.1 in
            let t = window_reads.takes bytes a.0.0 a.0.1 (IsBytes-rest flag bytes fits) a.1 in
            let is = some_is (stated a.0.0, a.0.1) (state, rest) a.2 in
            let one_flag : flag ∷ bytes ≡ flagged_bytes (stated a.0.0) ++ a.0.1 = ap (λ n. n ∷ bytes) (eqb-true flag 1 some.0) ∙ ap (λ bs. 1 ∷ bs) t.0.parts in
            subst (λ (z : Option WindowState × List ℕ). Took (flag ∷ bytes) (flagged_bytes z.0) z.1 × IfSome z.0 IsState) is
            (record { parts = one_flag; fits = t.0.fits }, t.1))
        | inr neither ↦ absurd cc
      ])
    ]

flagged_again : (state : Option WindowState) (rest : List ℕ) → IfSome state IsState → flagged_at (flagged_bytes state ++ rest) ≡ Some (state, rest)
unfolding flagged_at byte_at
flagged_again None rest holds = refl
flagged_again (Some state) rest holds = rw (window_reads.again (state.window, state.text) rest holds) refl

pub flagged_reads : Reads (Option WindowState) flagged_at flagged_bytes (λ state. IfSome state IsState)
flagged_reads = record { takes = flagged_takes; again = flagged_again }

-- places with their texts

abbrev HasName : (List ℕ → Bool) → ℕ × List ℕ → Type 0
HasName is_text x = (is_place x.0 ≡ true) × (is_text x.1 ≡ true)

name_reads : (is_text : List ℕ → Bool) → ((text : List ℕ) → is_text text ≡ true → length text < 256) → Reads (ℕ × List ℕ) (name_at is_text) (λ x. name_bytes x.0 x.1) (HasName is_text)
unfolding name_at
name_reads is_text short = record {
  takes = λ bytes x rest fits e.
      let a = bind_some (number_at w32 bytes) (λ place. byte_at place.1 >>= λ count. taken count.0 count.1 >>= λ text. cond (is_text text.0) (Some ((place.0, text.0), text.1)) None) (x, rest) e in
      let b = bind_some (byte_at a.0.1) (λ count. taken count.0 count.1 >>= λ text. cond (is_text text.0) (Some ((a.0.0, text.0), text.1)) None) (x, rest) a.2 in
      let c = bind_some (taken b.0.0 b.0.1) (λ text. cond (is_text text.0) (Some ((a.0.0, text.0), text.1)) None) (x, rest) b.2 in
      let d = cond_some (is_text c.0.0) ((a.0.0, c.0.0), c.0.1) (x, rest) c.2 in
      let t = u32_reads.takes bytes a.0.0 a.0.1 fits a.1 in
      let u = byte_reads.takes a.0.1 b.0.0 b.0.1 t.0.fits b.1 in
      let v = taken_takes b.0.0 b.0.1 c.0.0 c.0.1 u.0.fits c.1 in
      let behind : Took a.0.1 (length c.0.0 ∷ c.0.0) c.0.1 =
      subst (λ n. Took a.0.1 (n ∷ c.0.0) c.0.1) (sym v.1) (Took-then a.0.1 (b.0.0 ∷ []) b.0.1 c.0.0 c.0.1 u.0 v.0) in
      subst (λ (z : (ℕ × List ℕ) × List ℕ). Took bytes (name_bytes z.0.0 z.0.1) z.1 × HasName is_text z.0) d.1
      (Took-then bytes (four a.0.0) a.0.1 (length c.0.0 ∷ c.0.0) c.0.1 t.0 behind, (lt-ltb a.0.0 (2 ^ 32) t.1, d.0));
  again = λ x rest holds.
      let regrouped : name_bytes x.0 x.1 ++ rest ≡ four x.0 ++ ((length x.1 ∷ []) ++ (x.1 ++ rest)) = append_assoc (four x.0) (length x.1 ∷ x.1) rest in
      ap (name_at is_text) regrouped
      ∙ rw (u32_reads.again x.0 ((length x.1 ∷ []) ++ (x.1 ++ rest)) (ltb-true x.0 (2 ^ 32) holds.0), byte_reads.again (length x.1) (x.1 ++ rest) (short x.1 holds.1), taken_again (length x.1) x.1 rest refl, holds.1) refl;
}

-- places below 2^32, and as many texts of their kind
record AreNames (is_text : List ℕ → Bool) (x : Named) : Type 0 where
  small : list_all is_place x.places ≡ true
  same : length x.texts ≡ length x.places
  spelled : list_all is_text x.texts ≡ true

abbrev no_names : Named
no_names = record { places = []; texts = [] }

abbrev one_more : ℕ × List ℕ → Named → Named
one_more name others = record { places = name.0 ∷ others.places; texts = name.1 ∷ others.texts }

names_take : (is_text : List ℕ → Bool) → ((text : List ℕ) → is_text text ≡ true → length text < 256) → (n : ℕ) (bytes : List ℕ) (x : Named) (rest : List ℕ) → IsBytes bytes → names_at is_text n bytes ≡ Some (x, rest)
    → Took bytes (names_bytes x.places x.texts) rest × (length x.places ≡ n) × AreNames is_text x
unfolding names_at
names_take is_text short zero bytes x rest fits e =
    subst (λ (z : Named × List ℕ). Took bytes (names_bytes z.0.places z.0.texts) z.1 × (length z.0.places ≡ 0) × AreNames is_text z.0) (some_is (no_names, bytes) (x, rest) e)
    (record { parts = refl; fits = fits }, refl, record { small = refl; same = refl; spelled = refl })
names_take is_text short (suc n) bytes x rest fits e =
    let a = bind_some (name_at is_text bytes) (λ name. names_at is_text n name.1 >>= λ others. Some (one_more name.0 others.0, others.1)) (x, rest) e in
    let b = bind_some (names_at is_text n a.0.1) (λ others. Some (one_more a.0.0 others.0, others.1)) (x, rest) a.2 in
    let t = (name_reads is_text short).takes bytes a.0.0 a.0.1 fits a.1 in
    let u = names_take is_text short n a.0.1 b.0.0 b.0.1 t.0.fits b.1 in
    let are : AreNames is_text (one_more a.0.0 b.0.0) = record {
      small = and_from (is_place a.0.0.0) (list_all is_place b.0.0.places) t.1.0 u.2.small;
      same = ap suc u.2.same;
      spelled = and_from (is_text a.0.0.1) (list_all is_text b.0.0.texts) t.1.1 u.2.spelled;
    } in
    subst (λ (z : Named × List ℕ). Took bytes (names_bytes z.0.places z.0.texts) z.1 × (length z.0.places ≡ suc n) × AreNames is_text z.0) (some_is (one_more a.0.0 b.0.0, b.0.1) (x, rest) b.2)
    (Took-then bytes (name_bytes a.0.0.0 a.0.0.1) a.0.1 (names_bytes b.0.0.places b.0.0.texts) b.0.1 t.0 u.0, ap suc u.1, are)

names_again : (is_text : List ℕ → Bool) → ((text : List ℕ) → is_text text ≡ true → length text < 256) → (places : List ℕ) (texts : List (List ℕ)) (rest : List ℕ)
    → length texts ≡ length places → list_all is_place places ≡ true → list_all is_text texts ≡ true
    → names_at is_text (length places) (names_bytes places texts ++ rest) ≡ Some (record { places = places; texts = texts }, rest)
unfolding names_at
names_again is_text short [] [] rest same small spelled = refl
names_again is_text short [] (text ∷ texts) rest same small spelled = absurd (omega arith)
names_again is_text short (place ∷ places) [] rest same small spelled = absurd (omega arith)
names_again is_text short (place ∷ places) (text ∷ texts) rest same small spelled =
    let p = and_parts (is_place place) (list_all is_place places) small in
    let q = and_parts (is_text text) (list_all is_text texts) spelled in
    let fewer : length texts ≡ length places = omega arith in
    ap (names_at is_text (suc (length places))) (append_assoc (name_bytes place text) (names_bytes places texts) rest)
    ∙ rw ((name_reads is_text short).again (place, text) (names_bytes places texts ++ rest) (p.0, q.0), names_again is_text short places texts rest fewer p.1 q.1) refl

abbrev count_at : List ℕ → Option (ℕ × List ℕ)
count_at = only (leb 1) (number_at w32)

count_reads : Reads ℕ count_at four (λ n. (n < 2 ^ 32) × (leb 1 n ≡ true))
count_reads = Reads-only (number_at w32) four (λ n. n < 2 ^ 32) (leb 1) u32_reads

abbrev Rises : Named → Bool
Rises x = rises x.places

pub named_reads : (is_text : List ℕ → Bool) → ((text : List ℕ) → is_text text ≡ true → length text < 256) → Reads Named (named_at is_text) (λ x. named_bytes x.places x.texts) (λ x. AreNamed is_text x.places x.texts)
unfolding named_at named_bytes
named_reads is_text short = record {
  takes = λ bytes x rest fits e.
      let a = bind_some (count_at bytes) (λ count. only Rises (names_at is_text count.0) count.1) (x, rest) e in
      let b = bind_some (names_at is_text a.0.0 a.0.1) (λ named. cond (Rises named.0) (Some named) None) (x, rest) a.2 in
      let c = cond_some (Rises b.0.0) b.0 (x, rest) b.2 in
      let t = count_reads.takes bytes a.0.0 a.0.1 fits a.1 in
      let u = names_take is_text short a.0.0 a.0.1 b.0.0 b.0.1 t.0.fits b.1 in
      let whole : Took bytes (four (length b.0.0.places) ++ names_bytes b.0.0.places b.0.0.texts) b.0.1 =
      subst (λ n. Took bytes (four n ++ names_bytes b.0.0.places b.0.0.texts) b.0.1) (sym u.1) (Took-then bytes (four a.0.0) a.0.1 (names_bytes b.0.0.places b.0.0.texts) b.0.1 t.0 u.0) in
      let are : AreNamed is_text b.0.0.places b.0.0.texts = record {
        some = omega (arith, leb-true 1 a.0.0 t.1.1, u.1);
        few = omega (arith, t.1.0, u.1);
        small = u.2.small;
        rising = c.0;
        same = u.2.same;
        spelled = u.2.spelled;
      } in
      subst (λ (z : Named × List ℕ). Took bytes (four (length z.0.places) ++ names_bytes z.0.places z.0.texts) z.1 × AreNamed is_text z.0.places z.0.texts) c.1 (whole, are);
  again = λ x rest holds.
      ap (named_at is_text) (append_assoc (four (length x.places)) (names_bytes x.places x.texts) rest)
      ∙ rw (count_reads.again (length x.places) (names_bytes x.places x.texts ++ rest) (holds.few, le-leb 1 (length x.places) holds.some), names_again is_text short x.places x.texts rest holds.same holds.small holds.spelled, holds.rising) refl;
}
