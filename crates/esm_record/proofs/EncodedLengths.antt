-- What a base64 text encodes, by the groups before its last and by the last alone.
use Rattle.std.proofs.Common.{◌≡◌, ℕ, zero, suc, ◌+◌, ◌-◌, ◌*◌, ◌/◌, ◌%◌, ◌==◌, ◌<◌, ◌≤◌, nat_lt, Bool, true, false, not, ◌&&◌, List, [], ◌∷◌, ◌++◌, length, take, drop, slice_index, refl, sym, ap, ap₂, ◌∙◌, arith, inl, inr, Fits, w8}
use Rattle.std.proofs.lemmas.Bool.{cases_Bool, cases_eq, eq-eqb, ne_eqb, agree_below_at}
use Rattle.std.proofs.lemmas.List.{length-append, length-drop, get_or-drop}
use Rattle.std.proofs.lemmas.List.Folds.{list_all_more}
use Rattle.std.specs.Prelude.{if◌then◌else◌, option_map}
use Rattle.std.specs.List.{list_all}
use Rattle.std.specs.Option.{is_none}
use Rattle.std.specs.Result.{result_ok}
use Rattle.std.specs.declared.option.Option.{Option}
use Rattle.std.specs.declared.option.Option.TheVariants.{None, Some}
use Rattle.std.specs.declared.result.Result.{Result}
use Rattle.std.specs.declared.result.Result.TheVariants.{Ok, Err}
use Rattle.base64.specs.declared.decode.DecodeError.{DecodeError}
use Rattle.base64.specs.declared.decode.DecodeError.TheVariants.{InvalidByte, InvalidLength, InvalidLastSymbol}
use Rattle.base64.specs.declared.decode.DecodeSliceError.{DecodeSliceError}
use Rattle.base64.specs.declared.engine.DecodePaddingMode.{DecodePaddingMode}
use Rattle.base64.specs.declared.engine.general_purpose.GeneralPurpose.{GeneralPurpose}
use Rattle.base64.specs.Decode.{or_else, or_error, symbol_error, group_error, groups_error, groups_bytes, groups_before_last, lone_error, push_leftover, scan_steps, scan_last, scan_error, scan_bytes, no_leftover, padding_error, trailing_bits, leftover_error, leftover_bytes, suffix_error, suffix_bytes, decode_error, decoded_bytes, decode_outcome}
use Rattle.base64.specs.Engines.{standard}
use Rattle.base64.specs.GeneralPurpose.{decode_of, decode_slice_of}
use Rattle.base64.proofs.Decoding.{length-groups_bytes, slice_result_room}
use Rattle.esm_record.specs.Base64Symbols.{is_symbol}

-- ---- symbols

-- the table has a value for each symbol, and for no other byte
abbrev pub Knows : List ℕ → Type 0
Knows dec = (b : ℕ) → b < 256 → is_symbol b ≡ not (slice_index dec b == 255)

abbrev pub AreBytes : List ℕ → Type 0
AreBytes s = (i : ℕ) → slice_index s i < 256

error_if : (t : Bool) (e : DecodeError) → is_none (if t then Some e else None) ≡ not t
error_if true e = refl
error_if false e = refl

two_errors : (x y : Option DecodeError) → is_none (or_else x y) ≡ (is_none x && is_none y)
two_errors None y = refl
two_errors (Some e) y = refl

four_errors : (x y z w : Option DecodeError) → is_none (or_else x (or_else y (or_else z w))) ≡ (is_none x && (is_none y && (is_none z && is_none w)))
four_errors None None None w = refl
four_errors None None (Some e) w = refl
four_errors None (Some e) z w = refl
four_errors (Some e) y z w = refl

and_same : (a b c d : Bool) → a ≡ b → c ≡ d → (a && c) ≡ (b && d)
and_same a b c d e f = ap₂ (λ (x : Bool) (y : Bool). x && y) e f

symbol_passes : (dec s : List ℕ) (i : ℕ) → Knows dec → AreBytes s → is_none (symbol_error dec s i) ≡ is_symbol (slice_index s i)
symbol_passes dec s i known bytes = error_if (slice_index dec (slice_index s i) == 255) (InvalidByte i (slice_index s i)) ∙ sym (known (slice_index s i) (bytes i))

group_passes : (dec s : List ℕ) (i : ℕ) → Knows dec → AreBytes s
    → is_none (group_error dec s i) ≡ (is_symbol (slice_index s i) && (is_symbol (slice_index s (i + 1)) && (is_symbol (slice_index s (i + 2)) && is_symbol (slice_index s (i + 3)))))
group_passes dec s i known bytes =
    let third = and_same (is_none (symbol_error dec s (i + 2))) (is_symbol (slice_index s (i + 2))) (is_none (symbol_error dec s (i + 3))) (is_symbol (slice_index s (i + 3))) (symbol_passes dec s (i + 2) known bytes) (symbol_passes dec s (i + 3) known bytes) in
    four_errors (symbol_error dec s i) (symbol_error dec s (i + 1)) (symbol_error dec s (i + 2)) (symbol_error dec s (i + 3))
    ∙ and_same _ _ _ _ (symbol_passes dec s i known bytes) (and_same _ _ _ _ (symbol_passes dec s (i + 1) known bytes) third)

and_five : (l a b c d : Bool) → ((((l && a) && b) && c) && d) ≡ (l && (a && (b && (c && d))))
and_five false a b c d = refl
and_five true false b c d = refl
and_five true true false c d = refl
and_five true true true c d = refl

four_more : (s : List ℕ) (i : ℕ) → i + 4 ≤ length s
    → list_all is_symbol (take (i + 4) s) ≡ (list_all is_symbol (take i s) && (is_symbol (slice_index s i) && (is_symbol (slice_index s (i + 1)) && (is_symbol (slice_index s (i + 2)) && is_symbol (slice_index s (i + 3))))))
four_more s i fits =
    let a = list_all_more is_symbol s i 0 (omega arith) in
    let b = list_all_more is_symbol s (i + 1) 0 (omega arith) in
    let c = list_all_more is_symbol s (i + 2) 0 (omega arith) in
    let d = list_all_more is_symbol s (i + 3) 0 (omega arith) in
    let n2 : i + 1 + 1 ≡ i + 2 = omega arith in
    let n3 : i + 2 + 1 ≡ i + 3 = omega arith in
    let n4 : i + 3 + 1 ≡ i + 4 = omega arith in
    let two = sym (ap (λ (n : ℕ). list_all is_symbol (take n s)) n2) ∙ b ∙ ap (λ (t : Bool). t && is_symbol (slice_index s (i + 1))) a in
    let three = sym (ap (λ (n : ℕ). list_all is_symbol (take n s)) n3) ∙ c ∙ ap (λ (t : Bool). t && is_symbol (slice_index s (i + 2))) two in
    let four = sym (ap (λ (n : ℕ). list_all is_symbol (take n s)) n4) ∙ d ∙ ap (λ (t : Bool). t && is_symbol (slice_index s (i + 3))) three in
    four ∙ and_five (list_all is_symbol (take i s)) (is_symbol (slice_index s i)) (is_symbol (slice_index s (i + 1))) (is_symbol (slice_index s (i + 2))) (is_symbol (slice_index s (i + 3)))

-- so many groups have no error exactly where their bytes are symbols
groups_pass : (dec s : List ℕ) (q : ℕ) → Knows dec → AreBytes s → 4 * q ≤ length s → is_none (groups_error dec s q) ≡ list_all is_symbol (take (4 * q) s)
unfolding groups_error
groups_pass dec s zero known bytes fits = refl
groups_pass dec s (suc q) known bytes fits =
    let i : ℕ = 4 * q in
    let next : i + 4 ≡ 4 * suc q = omega arith in
    two_errors (groups_error dec s q) (group_error dec s i)
    ∙ and_same _ _ _ _ (groups_pass dec s q known bytes (omega arith)) (group_passes dec s i known bytes)
    ∙ sym (four_more s i (omega arith))
    ∙ ap (λ (n : ℕ). list_all is_symbol (take n s)) next

-- ---- the last group: where it begins shows in errors alone

abbrev type_of : {A : Type 0} → A → Type 0
type_of {A} a = A

-- what the decoder keeps of the symbols of the last group
abbrev Leftover : Type 0
Leftover = type_of no_leftover

same_push : (dec : List ℕ) (pad at : ℕ) (st : Leftover) (i b : ℕ) → result_ok (push_leftover dec pad at st i b) ≡ result_ok (push_leftover dec pad 0 st i b)
same_push dec pad at st i b = elim (cases_Bool (b == pad)) [
  | inl p ↦ elim (cases_Bool (nat_lt i 2)) [
    | inl l ↦ rw (p, l) refl
    | inr l ↦ rw (p, l) refl
  ]
  | inr p ↦ elim (cases_Bool (nat_lt 0 st.padding_count)) [
    | inl a ↦ rw (p, a) refl
    | inr a ↦ elim (cases_Bool (slice_index dec b == 255)) [
      | inl v ↦ rw (p, a, v) refl
      | inr v ↦ rw (p, a, v) refl
    ]
  ]
]

same_scan : (dec : List ℕ) (pad at : ℕ) (r q : Result Leftover DecodeError) (i : ℕ) (bs : List ℕ) → result_ok r ≡ result_ok q
    → result_ok (scan_steps dec pad at r i bs) ≡ result_ok (scan_steps dec pad 0 q i bs)
unfolding scan_steps
same_scan dec pad at (Err e) (Err f) i [] h = refl
same_scan dec pad at (Err e) (Err f) i (b ∷ bs) h = refl
same_scan dec pad at (Err e) (Ok st) i bs h = cc h
same_scan dec pad at (Ok st) (Err e) i bs h = cc h
same_scan dec pad at (Ok st) (Ok su) i [] h = h
same_scan dec pad at (Ok st) (Ok su) i (b ∷ bs) h =
    let e : st ≡ su = cc h in
    same_scan dec pad at (push_leftover dec pad at st i b) (push_leftover dec pad 0 su i b) (i + 1) bs
    (same_push dec pad at st i b ∙ ap (λ (x : Leftover). result_ok (push_leftover dec pad 0 x i b)) e)

same_last : (dec s last : List ℕ) (pad at : ℕ) → last ≡ drop at s → result_ok (scan_last dec pad at s) ≡ result_ok (scan_last dec pad 0 last)
same_last dec s last pad at e =
    ap (λ (bs : List ℕ). result_ok (scan_steps dec pad at (Ok no_leftover) 0 bs)) (sym e)
    ∙ same_scan dec pad at (Ok no_leftover) (Ok no_leftover) 0 last refl

by_tests : (t u : Bool) (p : Option DecodeError) (e f g h : DecodeError)
    → is_none (if t then Some e else or_else p (if u then Some f else None)) ≡ is_none (if t then Some g else or_else p (if u then Some h else None))
by_tests true u p e f g h = refl
by_tests false u (Some x) e f g h = refl
by_tests false true None e f g h = refl
by_tests false false None e f g h = refl

same_leftover : (is_empty : Bool) (at : ℕ) (allow : Bool) (mode : DecodePaddingMode) (st : Leftover)
    → is_none (leftover_error is_empty at allow mode st) ≡ is_none (leftover_error is_empty 0 allow mode st)
same_leftover is_empty at allow mode st =
    by_tests (not is_empty && nat_lt st.morsels_count 2) (not allow && not (trailing_bits st == 0)) (padding_error mode st)
    (InvalidLength (at + st.morsels_count)) (InvalidLastSymbol (at + st.morsels_count - 1) st.last_symbol st.last_symbol_value)
    (InvalidLength (0 + st.morsels_count)) (InvalidLastSymbol (0 + st.morsels_count - 1) st.last_symbol st.last_symbol_value)

same_error : (is_empty : Bool) (at : ℕ) (allow : Bool) (mode : DecodePaddingMode) (r q : Result Leftover DecodeError) → result_ok r ≡ result_ok q
    → is_none (scan_error is_empty at allow mode r) ≡ is_none (scan_error is_empty 0 allow mode q)
same_error is_empty at allow mode (Ok st) (Ok su) h =
    let e : st ≡ su = cc h in
    same_leftover is_empty at allow mode st ∙ ap (λ (x : Leftover). is_none (leftover_error is_empty 0 allow mode x)) e
same_error is_empty at allow mode (Ok st) (Err e) h = cc h
same_error is_empty at allow mode (Err e) (Ok st) h = cc h
same_error is_empty at allow mode (Err e) (Err f) h = refl

same_bytes : (r q : Result Leftover DecodeError) → result_ok r ≡ result_ok q → scan_bytes r ≡ scan_bytes q
same_bytes (Ok st) (Ok su) h =
    let e : st ≡ su = cc h in
    ap leftover_bytes e
same_bytes (Ok st) (Err e) h = cc h
same_bytes (Err e) (Ok st) h = cc h
same_bytes (Err e) (Err f) h = refl

-- ---- a last lone byte

abbrev is_lone : List ℕ → ℕ → ℕ → ℕ → Bool
is_lone dec pad places byte = places == 1 && not (byte == pad) && (slice_index dec byte == 255)

same_lone : (dec s last : List ℕ) (pad : ℕ) → length s % 4 ≡ length last % 4 → slice_index s (length s - 1) ≡ slice_index last (length last - 1)
    → is_none (lone_error dec pad s) ≡ is_none (lone_error dec pad last)
same_lone dec s last pad places byte =
    error_if (is_lone dec pad (length s % 4) (slice_index s (length s - 1))) (InvalidByte (length s - 1) (slice_index s (length s - 1)))
    ∙ ap₂ (λ (n : ℕ) (b : ℕ). not (is_lone dec pad n b)) places byte
    ∙ sym (error_if (is_lone dec pad (length last % 4) (slice_index last (length last - 1))) (InvalidByte (length last - 1) (slice_index last (length last - 1))))

-- ---- the whole text

three_errors : (x y z : Option DecodeError) → is_none (or_else x (or_else y z)) ≡ (is_none x && (is_none y && is_none z))
three_errors None None z = refl
three_errors None (Some e) z = refl
three_errors (Some e) y z = refl

turned : (x y z : Bool) → (x && (y && z)) ≡ (y && (x && z))
turned true true z = refl
turned true false z = refl
turned false true z = refl
turned false false z = refl

one_group : (last : List ℕ) → length last ≤ 4 → groups_before_last (length last) ≡ 0
one_group last short = omega arith

last_error : (dec last : List ℕ) (pad : ℕ) (allow : Bool) (mode : DecodePaddingMode) → length last ≤ 4
    → is_none (decode_error dec pad allow mode last) ≡ (is_none (lone_error dec pad last) && is_none (suffix_error dec pad allow mode 0 last))
unfolding groups_error
last_error dec last pad allow mode short =
    ap (λ (q : ℕ). is_none (or_else (lone_error dec pad last) (or_else (groups_error dec last q) (suffix_error dec pad allow mode (4 * q) last)))) (one_group last short)
    ∙ two_errors (lone_error dec pad last) (suffix_error dec pad allow mode 0 last)

last_bytes : (dec last : List ℕ) (pad : ℕ) → length last ≤ 4 → decoded_bytes dec pad last ≡ suffix_bytes dec pad 0 last
unfolding groups_bytes
last_bytes dec last pad short = ap (λ (q : ℕ). groups_bytes dec last q ++ suffix_bytes dec pad (4 * q) last) (one_group last short)

record IsLast (s last : List ℕ) : Type 0 where
  is : last ≡ drop (4 * groups_before_last (length s)) s
  short : length last ≤ 4
  places : length s % 4 ≡ length last % 4
  byte : slice_index s (length s - 1) ≡ slice_index last (length last - 1)
  empty : (length s == 0) ≡ (length last == 0)

same_empty : (n m : ℕ) → m ≡ n - 4 * groups_before_last n → (n == 0) ≡ (m == 0)
same_empty n m e = elim (cases_eq n 0) [
  | inl none ↦ eq-eqb n 0 none ∙ sym (eq-eqb m 0 (omega arith))
  | inr some ↦ ne_eqb n 0 some ∙ sym (ne_eqb m 0 (λ z. some (omega arith)))
]

last_from : (s last : List ℕ) → last ≡ drop (4 * groups_before_last (length s)) s → IsLast s last
last_from s last e =
    let at : ℕ = 4 * groups_before_last (length s) in
    let len : length last ≡ length s - at = ap length e ∙ length-drop at s in
    let place : at + (length last - 1) ≡ length s - 1 = omega arith in
    record {
      is = e;
      short = omega arith;
      places = omega arith;
      byte = sym (ap (λ (bs : List ℕ). slice_index bs (length last - 1)) e ∙ get_or-drop at s (length last - 1) 0 ∙ ap (slice_index s) place);
      empty = same_empty (length s) (length last) len;
    }

whole_error : (dec s last : List ℕ) (pad : ℕ) (allow : Bool) (mode : DecodePaddingMode) → Knows dec → AreBytes s → IsLast s last
    → is_none (decode_error dec pad allow mode s) ≡ (list_all is_symbol (take (4 * groups_before_last (length s)) s) && is_none (decode_error dec pad allow mode last))
whole_error dec s last pad allow mode known bytes l =
    let q : ℕ = groups_before_last (length s) in
    let at : ℕ = 4 * q in
    let fronts : Bool = list_all is_symbol (take at s) in
    let lone : is_none (lone_error dec pad s) ≡ is_none (lone_error dec pad last) = same_lone dec s last pad l.places l.byte in
    let groups : is_none (groups_error dec s q) ≡ fronts = groups_pass dec s q known bytes (omega arith) in
    let suffix : is_none (suffix_error dec pad allow mode at s) ≡ is_none (suffix_error dec pad allow mode 0 last) =
    same_error (length s == 0) at allow mode (scan_last dec pad at s) (scan_last dec pad 0 last) (same_last dec s last pad at l.is)
    ∙ ap (λ (t : Bool). is_none (scan_error t 0 allow mode (scan_last dec pad 0 last))) l.empty in
    three_errors (lone_error dec pad s) (groups_error dec s q) (suffix_error dec pad allow mode at s)
    ∙ and_same _ _ _ _ lone (and_same _ _ _ _ groups suffix)
    ∙ turned (is_none (lone_error dec pad last)) fronts (is_none (suffix_error dec pad allow mode 0 last))
    ∙ ap (λ (t : Bool). fronts && t) (sym (last_error dec last pad allow mode l.short))

whole_length : (dec s last : List ℕ) (pad : ℕ) → IsLast s last → length (decoded_bytes dec pad s) ≡ 3 * groups_before_last (length s) + length (decoded_bytes dec pad last)
whole_length dec s last pad l =
    let q : ℕ = groups_before_last (length s) in
    let same : suffix_bytes dec pad (4 * q) s ≡ decoded_bytes dec pad last =
    same_bytes (scan_last dec pad (4 * q) s) (scan_last dec pad 0 last) (same_last dec s last pad (4 * q) l.is) ∙ sym (last_bytes dec last pad l.short) in
    length-append (groups_bytes dec s q) (suffix_bytes dec pad (4 * q) s)
    ∙ ap₂ (λ (m : ℕ) (n : ℕ). m + n) (length-groups_bytes dec s q) (ap length same)

-- ---- counts

abbrev error_of : GeneralPurpose → List ℕ → Option DecodeError
error_of e s = decode_error e.decode_table e.padding.value e.config.decode_allow_trailing_bits e.config.decode_padding_mode s

outcome_counts : (x : Option DecodeError) (b : List ℕ) → option_map length (result_ok (decode_outcome x b)) ≡ (if is_none x then Some (length b) else None)
outcome_counts None b = refl
outcome_counts (Some e) b = refl

outcome_none : (x : Option DecodeError) (b : List ℕ) → is_none x ≡ false → option_map length (result_ok (decode_outcome x b)) ≡ None
outcome_none None b h = cc h
outcome_none (Some e) b h = refl

moved : (t u : Bool) (a b k : ℕ) → t ≡ u → a ≡ k + b → (if t then Some a else None) ≡ option_map (λ (n : ℕ). k + n) (if u then Some b else None)
moved t true a b k e f = ap (λ (v : Bool). if v then Some a else None) e ∙ ap (λ (n : ℕ). Some n) f
moved t false a b k e f = ap (λ (v : Bool). if v then Some a else None) e

-- a text, the groups before its last, and the last
pub record IsSplit (s before last : List ℕ) (groups : ℕ) : Type 0 where
  bytes : AreBytes s
  count : groups ≡ groups_before_last (length s)
  is_before : before ≡ take (4 * groups) s
  is_last : last ≡ drop (4 * groups) s

pub split_from : (s before last : List ℕ) (n : ℕ) → ((i : ℕ) → Fits w8 (slice_index s i)) → n ≡ length s - 1 → before ≡ take (4 * (n / 4)) s → last ≡ drop (4 * (n / 4)) s → IsSplit s before last (n / 4)
split_from s before last n fits count front back = record { bytes = λ i. omega (arith, fits i); count = omega arith; is_before = front; is_last = back }

at_count : (s before last : List ℕ) (groups : ℕ) → IsSplit s before last groups → IsLast s last
at_count s before last groups p = last_from s last (p.is_last ∙ ap (λ (n : ℕ). drop (4 * n) s) p.count)

-- the text has no error exactly where those groups are symbols, and the last has none
split_error : (e : GeneralPurpose) (s before last : List ℕ) (groups : ℕ) → Knows e.decode_table → IsSplit s before last groups
    → is_none (error_of e s) ≡ (list_all is_symbol before && is_none (error_of e last))
split_error e s before last groups known p =
    let fronts : list_all is_symbol before ≡ list_all is_symbol (take (4 * groups_before_last (length s)) s) =
    ap (list_all is_symbol) (p.is_before ∙ ap (λ (n : ℕ). take (4 * n) s) p.count) in
    whole_error e.decode_table s last e.padding.value e.config.decode_allow_trailing_bits e.config.decode_padding_mode known p.bytes (at_count s before last groups p)
    ∙ ap (λ (t : Bool). t && is_none (error_of e last)) (sym fronts)

-- a text whose bytes before the last group are not all symbols encodes nothing
pub not_symbols : (e : GeneralPurpose) (s before last : List ℕ) (groups : ℕ) → Knows e.decode_table → IsSplit s before last groups
    → list_all is_symbol before ≡ false → option_map length (result_ok (decode_of e s)) ≡ None
not_symbols e s before last groups known p bad =
    outcome_none (error_of e s) (decoded_bytes e.decode_table e.padding.value s)
    (split_error e s before last groups known p ∙ ap (λ (t : Bool). t && is_none (error_of e last)) bad)

-- else it encodes three bytes for each group before the last, and what the last encodes
pub counted : (e : GeneralPurpose) (s before last : List ℕ) (groups : ℕ) → Knows e.decode_table → IsSplit s before last groups
    → list_all is_symbol before ≡ true
    → option_map length (result_ok (decode_of e s)) ≡ option_map (λ (n : ℕ). 3 * groups + n) (option_map length (result_ok (decode_of e last)))
counted e s before last groups known p good =
    let bytes_s : List ℕ = decoded_bytes e.decode_table e.padding.value s in
    let bytes_last : List ℕ = decoded_bytes e.decode_table e.padding.value last in
    let errors : is_none (error_of e s) ≡ is_none (error_of e last) =
    split_error e s before last groups known p ∙ ap (λ (t : Bool). t && is_none (error_of e last)) good in
    let long : length bytes_s ≡ 3 * groups + length bytes_last =
    whole_length e.decode_table s last e.padding.value (at_count s before last groups p) ∙ ap (λ (n : ℕ). 3 * n + length bytes_last) (sym p.count) in
    outcome_counts (error_of e s) bytes_s
    ∙ moved (is_none (error_of e s)) (is_none (error_of e last)) (length bytes_s) (length bytes_last) (3 * groups) errors long
    ∙ sym (ap (option_map (λ (n : ℕ). 3 * groups + n)) (outcome_counts (error_of e last) bytes_last))

-- ---- a text of one group

slice_counts : (r : Result ℕ DecodeSliceError) (x : Option DecodeError) (b : List ℕ) → r ≡ or_error x (Ok (length b)) → result_ok r ≡ option_map length (result_ok (decode_outcome x b))
slice_counts r None b e = ap result_ok e
slice_counts r (Some d) b e = ap result_ok e

pub group_counted : (e : GeneralPurpose) (s : List ℕ) (r : Result ℕ DecodeSliceError) → length s ≤ 4 → r ≡ decode_slice_of e s 3
    → result_ok r ≡ option_map length (result_ok (decode_of e s))
group_counted e s r short is =
    slice_counts r (error_of e s) (decoded_bytes e.decode_table e.padding.value s)
    (is ∙ slice_result_room e.decode_table s e.padding.value e.config.decode_allow_trailing_bits e.config.decode_padding_mode 3 (omega arith))

-- the standard alphabet
pub knows_standard : Knows standard.decode_table
knows_standard b lt = agree_below_at is_symbol (λ x. not (slice_index standard.decode_table x == 255)) 256 b refl lt
