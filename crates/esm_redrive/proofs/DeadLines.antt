-- What a payload reads as, by itself.
use Rattle.std.proofs.Common.{◌≡◌, ℕ, zero, suc, ◌≤◌, Bool, true, false, cond, List, [], ◌∷◌, ◌++◌, length, refl, sym, ap, ◌∙◌, subst, inl, inr, arith, length-append, Option, Some, None, Ok, Err, Result}
use Rattle.std.specs.Prelude.{All, nat_lt}
use Rattle.std.specs.List.{list_any}
use Rattle.std.proofs.lemmas.Bool.{cases_Bool, or_parts, cond-false}
use Rattle.std.proofs.lemmas.List.Splits.{slice_split_none}
use Rattle.esm_model.specs.declared.limits.TheConstants.{MAX_LINE}
use Rattle.esm_record.specs.declared.error.LineError.{LineError}
use Rattle.esm_record.specs.declared.error.LineError.TheVariants.{LineTooLong}
use Rattle.esm_model.specs.declared.item.Item.{Item}
use Rattle.esm_model.specs.declared.item.Item.TheVariants.{Stream, Queue}
use Rattle.esm_model.specs.declared.item.LineKind.{LineKind}
use Rattle.esm_model.specs.declared.item.LineKind.TheVariants as kinds
use Rattle.esm_record.specs.Input.{Input, is_line_feed, is_blank, item_of, lines_of, ended, begun, too_long, nothing_read, after_line, read_lines, read_after, input_of, input_so_far}
use Rattle.esm_redrive.specs.DeadFile.{message_read, message_in, dead_message}

none_all : (p : ℕ → Bool) (xs : List ℕ) → list_any p xs ≡ false → All (λ x. p x ≡ false) xs
none_all p [] none k d within = absurd (omega arith)
none_all p (x ∷ xs) none zero d within = (or_parts (p x) (list_any p xs) none).0
none_all p (x ∷ xs) none (suc k) d within = none_all p xs (or_parts (p x) (list_any p xs) none).1 k d (omega arith)

one_line : (bytes : List ℕ) → list_any is_line_feed bytes ≡ false → lines_of bytes ≡ bytes ∷ []
one_line bytes none = slice_split_none is_line_feed bytes (none_all is_line_feed bytes none)

pub whole_is : (kind : LineKind) (bytes : List ℕ) → list_any is_line_feed bytes ≡ false → input_of kind bytes ≡ after_line nothing_read (read_after kind [] bytes)
unfolding input_of
whole_is kind bytes none = ap (read_lines kind) (one_line bytes none)

refused_none : (b : Bool) (other : Result (Option Item) LineError) → b ≡ true → (after_line nothing_read (cond b (Err LineTooLong) other)).items ≡ []
refused_none b other is = ap (λ (c : Bool). (after_line nothing_read (cond c (Err LineTooLong) other)).items) is

long_line : (kind : LineKind) (bytes : List ℕ) → (read_lines kind (too_long bytes)).items ≡ []
long_line kind bytes =
    elim (cases_Bool (nat_lt MAX_LINE (length bytes))) [
      | inl long ↦
          (ap (λ (b : Bool). (read_lines kind (cond b (bytes ∷ []) [])).items) long
          ∙ refused_none (nat_lt MAX_LINE (length bytes)) (cond (is_blank bytes) (Ok None) (item_of kind [] bytes)) long)
      | inr short ↦ ap (λ (b : Bool). (read_lines kind (cond b (bytes ∷ []) [])).items) short
    ]

pub front_is : (kind : LineKind) (bytes : List ℕ) → list_any is_line_feed bytes ≡ false → (input_so_far kind bytes).items ≡ []
unfolding input_so_far
front_is kind bytes none =
    ap (λ (lines : List (List ℕ)). (read_lines kind (ended lines ++ too_long (begun lines))).items) (one_line bytes none)
    ∙ long_line kind bytes

-- a payload without a line feed, by what a reader of it gave

pub alone : (fifo : Bool) (bytes : List ℕ) → list_any is_line_feed bytes ≡ false → dead_message fifo bytes ≡ message_read (read_after (kinds.Queue fifo) [] bytes)
alone fifo bytes none = cond-false (list_any is_line_feed bytes) None (message_read (read_after (kinds.Queue fifo) [] bytes)) none

items_are : (fifo : Bool) (bytes : List ℕ) (items : List Item) → list_any is_line_feed bytes ≡ false → (input_so_far (kinds.Queue fifo) bytes).items ++ items ≡ (input_of (kinds.Queue fifo) bytes).items → (after_line nothing_read (read_after (kinds.Queue fifo) [] bytes)).items ≡ items
items_are fifo bytes items none given =
    sym (sym (ap (λ (front : List Item). front ++ items) (front_is (kinds.Queue fifo) bytes none)) ∙ (given ∙ ap (λ (i : Input). i.items) (whole_is (kinds.Queue fifo) bytes none)))

-- its message is that of the only item

read_in : (r : Result (Option Item) LineError) → message_in (after_line nothing_read r).items ≡ message_read r
read_in (Ok None) = refl
read_in (Ok (Some (Queue m))) = refl
read_in (Ok (Some (Stream r))) = refl
read_in (Err why) = refl

one_at_most : (r : Result (Option Item) LineError) → length (after_line nothing_read r).items ≤ 1
one_at_most (Ok None) = omega arith
one_at_most (Ok (Some y)) = omega arith
one_at_most (Err why) = omega arith

pub payload_is : (fifo : Bool) (bytes : List ℕ) (items : List Item) → list_any is_line_feed bytes ≡ false → (input_so_far (kinds.Queue fifo) bytes).items ++ items ≡ (input_of (kinds.Queue fifo) bytes).items → message_in items ≡ dead_message fifo bytes
payload_is fifo bytes items none given =
    ap message_in (sym (items_are fifo bytes items none given)) ∙ (read_in (read_after (kinds.Queue fifo) [] bytes) ∙ sym (alone fifo bytes none))

pub payload_few : (fifo : Bool) (bytes : List ℕ) (items : List Item) → list_any is_line_feed bytes ≡ false → (input_so_far (kinds.Queue fifo) bytes).items ++ items ≡ (input_of (kinds.Queue fifo) bytes).items → length items ≤ 1
payload_few fifo bytes items none given = subst (λ (xs : List Item). length xs ≤ 1) (items_are fifo bytes items none given) (one_at_most (read_after (kinds.Queue fifo) [] bytes))

-- of one item at most, the last is the first

pub last_is : (items rest : List Item) (x : Item) → length items ≤ 1 → items ≡ rest ++ x ∷ [] → message_in (x ∷ []) ≡ message_in items
last_is items [] x few is = ap message_in (sym is)
last_is items (y ∷ rest) x few is =
    let whole = ap (λ (xs : List Item). length xs) is in
    let parts = length-append rest (x ∷ []) in
    absurd (omega (arith, few, whole, parts))

pub none_is : (items : List Item) → length items ≡ 0 → None ≡ message_in items
none_is [] none = refl
none_is (x ∷ items) none = absurd (omega (arith, none))
