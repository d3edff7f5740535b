-- The lines of a generated stream read as its records, one after another.
use Rattle.std.proofs.Common.{◌≡◌, ◌≢◌, ℕ, zero, suc, ◌+◌, ◌%◌, ◌^◌, ◌<◌, ◌≤◌, false, nat_lt, List, [], ◌∷◌, ◌++◌, length, map, Option, Some, None, refl, sym, ap, ◌∙◌, add-one, arith}
use Rattle.std.specs.Prelude.{Ok}
use Rattle.std.proofs.lemmas.Bool.Decides.{nat_tests}
use Rattle.std.proofs.lemmas.List.{map-append}
use Rattle.std.proofs.lemmas.List.Sums.{fold-append}
use Rattle.esm_model.specs.Fates.{below}
use Rattle.esm_model.specs.Records.{Record}
use Rattle.esm_record.specs.Input.{Input, add_line, after_line, begun, ended, in_order, input_of, last_number, lines_of, number_after, read_after, read_lines}
use Rattle.esm_model.specs.declared.item.Item.{Item}
use Rattle.esm_model.specs.declared.item.Item.TheVariants.{Stream}
use Rattle.esm_model.specs.declared.item.LineKind.TheVariants as kinds
use Rattle.esm_record.proofs.Splits.{begun_at_end, ended_at_end, lines_are}
use Rattle.esm_gen.specs.Generated.{generated_record, generated_records, generated_lines}
use Rattle.esm_gen.specs.Reads.{ReadsAs}
use Rattle.esm_gen.proofs.Generating.{one_more}
use Rattle.esm_gen.proofs.OneLine.{line_text, line_is, line_plain, line_reads, line_short, plain_no_feed}
use Rattle.esm_gen.proofs.Orders.{before}

-- its lines

record AreLines (n : ℕ) : Type 0 where
  ended_are : ended (lines_of (generated_lines n)) ≡ map line_text (below n)
  none_begun : begun (lines_of (generated_lines n)) ≡ []

one_more_line : (n : ℕ) → generated_lines (suc n) ≡ generated_lines n ++ (line_text n ++ 10 ∷ [])
one_more_line n = ap generated_lines (sym (add-one n)) ∙ one_more n ∙ ap (λ (line : List ℕ). generated_lines n ++ line) (line_is n)

are_lines : (n : ℕ) → n ≤ 2 ^ 32 → AreLines n
are_lines zero h = record { ended_are = refl; none_begun = refl }
are_lines (suc n) h =
    let b = are_lines n (omega arith) in
    let none = plain_no_feed (line_text n) (line_plain n (omega arith)) in
    record {
      ended_are =
          ap (λ bytes. ended (lines_of bytes)) (one_more_line n) ∙ ended_at_end (generated_lines n) (line_text n) none
          ∙ rw (b.ended_are, b.none_begun) (sym (map-append line_text (below n) (n ∷ [])));
      none_begun = ap (λ bytes. begun (lines_of bytes)) (one_more_line n) ∙ begun_at_end (generated_lines n) (line_text n) none;
    }

-- the last sequence number of each shard

more_items : (n : ℕ) → map Stream (generated_records (suc n)) ≡ map Stream (generated_records n) ++ Stream (generated_record n) ∷ []
more_items n =
    ap (map Stream) (map-append generated_record (below n) (n ∷ [])) ∙ map-append Stream (generated_records n) (generated_record n ∷ [])

number_same : (s : ℕ) (last : Option (List ℕ)) (r : Record) → r.shard ≡ s → number_after s last (Stream r) ≡ Some r.seq
number_same s last r e = rw e (grind (arith, nat_tests))

number_other : (s : ℕ) (last : Option (List ℕ)) (r : Record) → r.shard ≢ s → number_after s last (Stream r) ≡ last
number_other s last r ne = grind (arith, nat_tests)

last_same : (s n : ℕ) → n % 2 ≡ s → last_number s (map Stream (generated_records (suc n))) ≡ Some (generated_record n).seq
last_same s n e =
    ap (last_number s) (more_items n)
    ∙ fold-append (number_after s) None (map Stream (generated_records n)) (Stream (generated_record n) ∷ [])
    ∙ number_same s (last_number s (map Stream (generated_records n))) (generated_record n) e

last_other : (s n : ℕ) → n % 2 ≢ s → last_number s (map Stream (generated_records (suc n))) ≡ last_number s (map Stream (generated_records n))
last_other s n ne =
    ap (last_number s) (more_items n)
    ∙ fold-append (number_after s) None (map Stream (generated_records n)) (Stream (generated_record n) ∷ [])
    ∙ number_other s (last_number s (map Stream (generated_records n))) (generated_record n) ne

later : (kept : List ℕ) (r : Record) → Rattle.esm_model.specs.Sequence.sequence_order kept r.seq ≡ Rattle.std.specs.declared.cmp.Ordering.TheVariants.Less → in_order (Some kept) r ≡ Ok r
later kept r h = rw h refl

ordered : (n : ℕ) → n < 2 ^ 32 → in_order (last_number (n % 2) (map Stream (generated_records n))) (generated_record n) ≡ Ok (generated_record n)
ordered zero h = refl
ordered (suc zero) h = refl
ordered (suc (suc m)) h =
    rw (last_other (suc (suc m) % 2) (suc m) (omega arith), last_same (suc (suc m) % 2) m (omega arith))
    (later (generated_record m).seq (generated_record (suc (suc m))) (before (m + 1) (suc (suc m) + 1) (omega arith) (omega arith)))

-- its items

abbrev some_record : ℕ → Option Item
some_record n = Some (Stream (generated_record n))

short_line : (n : ℕ) → n < 2 ^ 32 → nat_lt 8388608 (length (line_text n)) ≡ false
short_line n h = let l = line_short n h in grind (arith, nat_tests)

read_one : (n : ℕ) → n < 2 ^ 32 → read_after kinds.Stream (map Stream (generated_records n)) (line_text n) ≡ Ok (some_record n)
read_one n h = rw (short_line n h, line_reads n h, ordered n h) refl

abbrev read_so_far : ℕ → Input
read_so_far n = record { lines = n; items = map Stream (generated_records n); bad = None }

add_one : (n : ℕ) → n < 2 ^ 32 → add_line kinds.Stream (read_so_far n) (line_text n) ≡ read_so_far (suc n)
add_one n h =
    ap (after_line (read_so_far n)) (read_one n h)
    ∙ ap (λ (lines : ℕ). record { lines = lines; items = map Stream (generated_records n) ++ Stream (generated_record n) ∷ []; bad = None }) (add-one n)
    ∙ ap (λ (items : List Item). record { lines = suc n; items = items; bad = None }) (sym (more_items n))

read_all : (n : ℕ) → n ≤ 2 ^ 32 → read_lines kinds.Stream (map line_text (below n)) ≡ read_so_far n
read_all zero h = refl
read_all (suc n) h =
    ap (read_lines kinds.Stream) (map-append line_text (below n) (n ∷ []))
    ∙ fold-append (add_line kinds.Stream) _ (map line_text (below n)) (line_text n ∷ [])
    ∙ ap (λ input. add_line kinds.Stream input (line_text n)) (read_all n (omega arith))
    ∙ add_one n (omega arith)

lines_split : (n : ℕ) → n ≤ 2 ^ 32 → lines_of (generated_lines n) ≡ map line_text (below n) ++ [] ∷ []
lines_split n h = let l = are_lines n h in lines_are (generated_lines n) ∙ rw (l.ended_are, l.none_begun) refl

input_is : (n : ℕ) → n ≤ 2 ^ 32 → input_of kinds.Stream (generated_lines n) ≡ record { lines = n + 1; items = map Stream (generated_records n); bad = None }
unfolding input_of
input_is n h =
    ap (read_lines kinds.Stream) (lines_split n h)
    ∙ fold-append (add_line kinds.Stream) _ (map line_text (below n)) ([] ∷ [])
    ∙ ap (λ input. add_line kinds.Stream input []) (read_all n h)

pub reads_back : (n : ℕ) → n ≤ 2 ^ 32 → ReadsAs (generated_lines n) (generated_records n)
reads_back n h = record { items = ap (λ (input : Input). input.items) (input_is n h); no_bad_line = ap (λ (input : Input). input.bad) (input_is n h) }
