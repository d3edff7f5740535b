-- What a payload of kind 7 is read as names as many places as texts. Only this crate's proofs cite this.
use Rattle.std.proofs.Common.{◌≡◌, ◌⊎◌, ℕ, zero, suc, Bool, true, false, cond, eqb, leb, List, [], ◌∷◌, length, Option, Some, None, refl, ap, subst, inl, inr}
use Rattle.std.specs.Prelude.{IfSome}
use Rattle.std.specs.Int.{w32}
use Rattle.std.proofs.lemmas.Option.{cond_some}
use Rattle.esm_model.specs.Sequence.{is_sequence}
use Rattle.esm_journal_record.specs.declared.said.Said.{Said}
use Rattle.esm_journal_record.specs.declared.said.Said.TheVariants as said
use Rattle.esm_journal_record.specs.Payload.{is_message_id, may_keep, is_deletion, rises}
use Rattle.esm_journal_record.specs.Parsing.{◌>>=◌, ◌⊗◌, only, made, number_at, byte_at, shard_at, moment_at, tries_at, fate_at, text_at, state_of, flagged_at, name_at, names_at, named_at, fates_at, closed_at, deleted_at, state_at, tried_at, window_tried_at, replayed_at, said_at, said_of}

-- a payload of kind 7 names as many places as texts
abbrev pub HasSameLengths : Said → Type 0
HasSameLengths (said.Replayed shard moment places texts) = length texts ≡ length places
HasSameLengths _ = Unit {0}

-- choices

-- the value of a step that did not fail
bind_some : {A B : Type 0} (r : Option A) (f : A → Option B) (y : B) → (r >>= f) ≡ Some y → (x : A) × (r ≡ Some x) × (f x ≡ Some y)
bind_some (Some x) f y e = (x, refl, e)
bind_some None f y e = absurd cc

abbrev some : {A : Type 0} → A → Option A
some x = Some x

some_is : {A : Type 0} (x y : A) → some x ≡ some y → x ≡ y
some_is x y e = cc

-- which way a choice went
chosen : {A : Type 0} (b : Bool) (x y z : A) → cond b x y ≡ z → ((b ≡ true) × (x ≡ z)) ⊎ ((b ≡ false) × (y ≡ z))
chosen true x y z e = inl (refl, e)
chosen false x y z e = inr (refl, e)

-- fields

-- what a field gives
abbrev Given : {A : Type 0} → (List ℕ → Option (A × List ℕ)) → Type 0
Given {A} field = A

-- places with their texts
abbrev Named : Type 0
Named = Given (named_at is_sequence)

-- the second of two fields was read
second_read : {A B : Type 0} (f : List ℕ → Option (A × List ℕ)) (g : List ℕ → Option (B × List ℕ)) (bytes : List ℕ) (y : (A × B) × List ℕ) → (f ⊗ g) bytes ≡ Some y → (after : List ℕ) × (g after ≡ Some (y.0.1, y.1))
second_read {A} {B} f g bytes y e =
    let a = bind_some (f bytes) (λ x. g x.1 >>= λ z. Some ((x.0, z.0), z.1)) y e in
    let b = bind_some (g a.0.1) (λ z. Some ((a.0.0, z.0), z.1)) y a.2 in
    let is = some_is ((a.0.0, b.0.0), b.0.1) y b.2 in
    (a.0.1, subst (λ (z : (A × B) × List ℕ). g a.0.1 ≡ Some (z.0.1, z.1)) is b.1)

-- what was made of a field that was read
made_from : {A B : Type 0} (make : A → B) (f : List ℕ → Option (A × List ℕ)) (bytes : List ℕ) (y : B) (rest : List ℕ) → made make f bytes ≡ Some (y, rest) → (x : A) × (left : List ℕ) × (f bytes ≡ Some (x, left)) × (make x ≡ y)
made_from {A} {B} make f bytes y rest e =
    let a = bind_some (f bytes) (λ x. Some (make x.0, x.1)) (y, rest) e in
    let is = some_is (make a.0.0, a.0.1) (y, rest) a.2 in
    (a.0.0, a.0.1, a.1, ap (λ (z : B × List ℕ). z.0) is)

-- places with their texts

names_same : (is_text : List ℕ → Bool) (n : ℕ) (bytes : List ℕ) (x : Named × List ℕ) → names_at is_text n bytes ≡ Some x → length x.0.texts ≡ length x.0.places
unfolding names_at
names_same is_text zero bytes x e =
    let none : Named × List ℕ = (record { places = []; texts = [] }, bytes) in
    subst (λ (z : Named × List ℕ). length z.0.texts ≡ length z.0.places) (some_is none x e) refl
names_same is_text (suc n) bytes x e =
    let a = bind_some (name_at is_text bytes) (λ name. names_at is_text n name.1 >>= λ others. Some (record { places = name.0.0 ∷ others.0.places; texts = name.0.1 ∷ others.0.texts }, others.1)) x e in
    let b = bind_some (names_at is_text n a.0.1) (λ others. Some (record { places = a.0.0.0 ∷ others.0.places; texts = a.0.0.1 ∷ others.0.texts }, others.1)) x a.2 in
    let both : Named × List ℕ = (record { places = a.0.0.0 ∷ b.0.0.places; texts = a.0.0.1 ∷ b.0.0.texts }, b.0.1) in
    subst (λ (z : Named × List ℕ). length z.0.texts ≡ length z.0.places) (some_is both x b.2) (ap (λ (k : ℕ). suc k) (names_same is_text n a.0.1 b.0 b.1))

named_same : (is_text : List ℕ → Bool) (bytes : List ℕ) (x : Named × List ℕ) → named_at is_text bytes ≡ Some x → length x.0.texts ≡ length x.0.places
unfolding named_at
named_same is_text bytes x e =
    let a = bind_some (only (leb 1) (number_at w32) bytes) (λ count. only (λ (named : Named). rises named.places) (names_at is_text count.0) count.1) x e in
    let b = bind_some (names_at is_text a.0.0 a.0.1) (λ named. cond (rises named.0.places) (Some named) None) x a.2 in
    let c = cond_some (rises b.0.0.places) b.0 x b.2 in
    subst (λ (z : Named × List ℕ). length z.0.texts ≡ length z.0.places) c.1 (names_same is_text a.0.0 a.0.1 b.0 b.1)

-- kinds

abbrev Same : (List ℕ → Option (Said × List ℕ)) → Type 0
Same field = (bytes : List ℕ) (one : Said) (rest : List ℕ) → field bytes ≡ Some (one, rest) → HasSameLengths one

fates_same : Same fates_at
unfolding fates_at
fates_same bytes one rest e =
    let m = made_from (λ x. said.Fates x.0 x.1.0 x.1.1.0 x.1.1.1.0 x.1.1.1.1.places x.1.1.1.1.texts)
    (only (λ x. may_keep x.1.0 x.1.1.1.0) (shard_at ⊗ fate_at ⊗ moment_at ⊗ flagged_at ⊗ named_at is_sequence)) bytes one rest e in
    subst HasSameLengths m.3 tt

closed_same : Same closed_at
unfolding closed_at
closed_same bytes one rest e =
    let m = made_from (λ x. said.Closed x.0 x.1.0 x.1.1) (shard_at ⊗ moment_at ⊗ moment_at) bytes one rest e in
    subst HasSameLengths m.3 tt

deleted_same : Same deleted_at
unfolding deleted_at
deleted_same bytes one rest e =
    let m = made_from (λ x. said.Deleted x.0 x.1.0 x.1.1.places x.1.1.texts) (only is_deletion fate_at ⊗ moment_at ⊗ named_at is_message_id) bytes one rest e in
    subst HasSameLengths m.3 tt

state_same : Same state_at
unfolding state_at
state_same bytes one rest e =
    let m = made_from (λ x. said.State x.0 x.1.1.0 (state_of (x.1.0, x.1.1.1))) (shard_at ⊗ moment_at ⊗ moment_at ⊗ text_at) bytes one rest e in
    subst HasSameLengths m.3 tt

tried_same : Same tried_at
unfolding tried_at
tried_same bytes one rest e =
    let m = made_from (λ x. said.Tried x.0 x.1.0 x.1.1.0 x.1.1.1.places x.1.1.1.texts) (shard_at ⊗ moment_at ⊗ tries_at ⊗ named_at is_sequence) bytes one rest e in
    subst HasSameLengths m.3 tt

window_tried_same : Same window_tried_at
unfolding window_tried_at
window_tried_same bytes one rest e =
    let m = made_from (λ x. said.WindowTried x.0 x.1.0 x.1.1.0 x.1.1.1) (shard_at ⊗ moment_at ⊗ moment_at ⊗ tries_at) bytes one rest e in
    subst HasSameLengths m.3 tt

abbrev replayed_made : ℕ × (ℕ × Named) → Said
replayed_made x = said.Replayed x.0 x.1.0 x.1.1.places x.1.1.texts

replayed_same : Same replayed_at
unfolding replayed_at
replayed_same bytes one rest e =
    let m = made_from replayed_made (shard_at ⊗ moment_at ⊗ named_at is_sequence) bytes one rest e in
    let later = second_read shard_at (moment_at ⊗ named_at is_sequence) bytes (m.0, m.1) m.2 in
    let last = second_read moment_at (named_at is_sequence) later.0 (m.0.1, m.1) later.1 in
    subst HasSameLengths m.3 (named_same is_sequence last.0 (m.0.1.1, m.1) last.1)

-- any kind

abbrev Read : Type 0
Read = Option (Said × List ℕ)

abbrev from_7 : ℕ → List ℕ → Read
from_7 kind bytes = cond (eqb kind 7) (replayed_at bytes) None

abbrev from_6 : ℕ → List ℕ → Read
from_6 kind bytes = cond (eqb kind 6) (window_tried_at bytes) (from_7 kind bytes)

abbrev from_5 : ℕ → List ℕ → Read
from_5 kind bytes = cond (eqb kind 5) (tried_at bytes) (from_6 kind bytes)

abbrev from_4 : ℕ → List ℕ → Read
from_4 kind bytes = cond (eqb kind 4) (state_at bytes) (from_5 kind bytes)

abbrev from_3 : ℕ → List ℕ → Read
from_3 kind bytes = cond (eqb kind 3) (deleted_at bytes) (from_4 kind bytes)

abbrev from_2 : ℕ → List ℕ → Read
from_2 kind bytes = cond (eqb kind 2) (closed_at bytes) (from_3 kind bytes)

kinds_same : (kind : ℕ) → Same (said_at kind)
unfolding said_at
kinds_same kind bytes one rest e =
    elim (chosen (eqb kind 1) (fates_at bytes) (from_2 kind bytes) (Some (one, rest)) e) [
      | inl is ↦ fates_same bytes one rest is.1
      | inr not-1 ↦ (elim (chosen (eqb kind 2) (closed_at bytes) (from_3 kind bytes) (Some (one, rest)) not-1.1) [
        | inl is ↦ closed_same bytes one rest is.1
        | inr not-2 ↦ (elim (chosen (eqb kind 3) (deleted_at bytes) (from_4 kind bytes) (Some (one, rest)) not-2.1) [
          | inl is ↦ deleted_same bytes one rest is.1
          | inr not-3 ↦ (elim (chosen (eqb kind 4) (state_at bytes) (from_5 kind bytes) (Some (one, rest)) not-3.1) [
            | inl is ↦ state_same bytes one rest is.1
            | inr not-4 ↦ (elim (chosen (eqb kind 5) (tried_at bytes) (from_6 kind bytes) (Some (one, rest)) not-4.1) [
              | inl is ↦ tried_same bytes one rest is.1
              | inr not-5 ↦ (elim (chosen (eqb kind 6) (window_tried_at bytes) (from_7 kind bytes) (Some (one, rest)) not-5.1) [
                | inl is ↦ window_tried_same bytes one rest is.1
                | inr not-6 ↦ (elim (chosen (eqb kind 7) (replayed_at bytes) None (Some (one, rest)) not-6.1) [
                  | inl is ↦ replayed_same bytes one rest is.1
                  | inr not-7 ↦ absurd cc
                ])
              ])
            ])
          ])
        ])
      ])
    ]

read_same : (payload : List ℕ) (one : Said) → said_of payload ≡ Some one → HasSameLengths one
unfolding said_of byte_at
read_same [] one e = absurd cc
read_same (kind ∷ bytes) one e =
    let a = bind_some (said_at kind bytes) (λ x. cond (eqb (length x.1) 0) (Some x.0) None) one e in
    let b = cond_some (eqb (length a.0.1) 0) a.0.0 one a.2 in
    subst HasSameLengths b.1 (kinds_same kind bytes a.0.0 a.0.1 a.1)

pub said_same : (payload : List ℕ) (o : Option Said) → said_of payload ≡ o → IfSome o HasSameLengths
said_same payload None is = tt
said_same payload (Some one) is = read_same payload one is
