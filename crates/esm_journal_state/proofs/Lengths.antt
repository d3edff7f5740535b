-- No payload of the shorter list is too long for a journal.
use Rattle.std.proofs.Common.{◌≡◌, ℕ, zero, suc, ◌*◌, ◌<◌, ◌≤◌, ◌&&◌, ◌==◌, nat_le, nat_lt, Bool, true, false, List, [], ◌∷◌, ◌++◌, length, Option, Some, None, if◌then◌else◌, refl, sym, subst, arith}
use Rattle.std.specs.Prelude.{map, IfSome}
use Rattle.std.specs.List.{All, AllByRecursion, list_all}
use Rattle.std.proofs.lemmas.Bool.{and_parts}
use Rattle.std.proofs.lemmas.Bool.Decides.{nat_tests}
use Rattle.std.proofs.lemmas.List.{length-append}
use Rattle.esm_model.specs.declared.limits.TheConstants.{MAX_PAYLOAD}
use Rattle.esm_model.specs.declared.entry.WindowState.{WindowState}
use Rattle.esm_model.specs.Sequence.{is_sequence}
use Rattle.esm_journal_record.specs.declared.said.Said.{Said}
use Rattle.esm_journal_record.specs.declared.said.Said.TheVariants.{Fates, Closed, Deleted, State, Tried, WindowTried, Replayed}
use Rattle.esm_journal_record.specs.Payload.{eight, four, flagged_bytes, text_bytes, name_bytes, names_bytes, named_bytes, payload_of, fate_byte, is_message_id, AreNamed, IsState, IsSaid}
use Rattle.esm_journal_state.specs.Pieces.{Entry, Piece, piece_of, has_room, grown, piece_after, pieces_after, pieces}
use Rattle.esm_journal_state.specs.Compact.{greatest_moment, fates_of, tried_of, replayed_of, deleted_of, state_of_window, tried_of_window, IsCompacted}
use Rattle.esm_journal_state.proofs.Compacting.{all_may}
use Rattle.esm_journal_state.proofs.Histories.{AllSaid}
use Rattle.esm_journal_state.proofs.KindLemmas.{all_joined, all_turned}

-- lengths

four_size : (n : ℕ) → length (four n) ≡ 4
unfolding four
four_size n = refl

eight_size : (n : ℕ) → length (eight n) ≡ 8
unfolding eight
eight_size n = refl

at_most : (n most : ℕ) → nat_le n most ≡ true → n ≤ most
at_most n most test = grind (arith, nat_tests)

second_of : (a b c d : Bool) → (((a && b) && c) && d) ≡ true → b ≡ true
second_of a true c d is = refl
second_of true false c d is = is
second_of false false c d is = is

sequence_size : (text : List ℕ) → is_sequence text ≡ true → length text ≤ 129
sequence_size text is = at_most (length text) 129 (second_of _ _ _ _ is)

inner_of : (a b c : Bool) → ((a && b) && c) ≡ true → b ≡ true
inner_of a true c is = refl
inner_of true false c is = is
inner_of false false c is = is

id_size : (text : List ℕ) → is_message_id text ≡ true → length text ≤ 129
id_size text is = let most = at_most (length text) 100 (inner_of _ _ _ is) in omega (arith, most)

module _ (is_text : List ℕ → Bool) (size : (text : List ℕ) → is_text text ≡ true → length text ≤ 129) where
  names_size : (places : List ℕ) (texts : List (List ℕ)) → list_all is_text texts ≡ true → length (names_bytes places texts) ≤ length places * 134
  names_size [] texts all = omega arith
  names_size (place ∷ places) [] all = omega arith
  names_size (place ∷ places) (text ∷ texts) all =
      let parts = and_parts (is_text text) (list_all is_text texts) all in
      omega (arith, length-append (name_bytes place text) (names_bytes places texts), length-append (four place) (length text ∷ text), four_size place, size text parts.0, names_size places texts parts.1)

  named_size : (places : List ℕ) (texts : List (List ℕ)) → AreNamed is_text places texts → length places ≤ 10000 → length (named_bytes places texts) ≤ 1340004
  unfolding named_bytes
  named_size places texts named few =
      omega (arith, length-append (four (length places)) (names_bytes places texts), four_size (length places), names_size places texts named.spelled, few)

flagged_size : (state : Option WindowState) → IfSome state IsState → length (flagged_bytes state) ≤ 1048589
flagged_size None is = omega arith
flagged_size (Some state) is =
    omega (arith, length-append (eight state.window) (text_bytes state.text), eight_size state.window, length-append (four (length state.text)) state.text, four_size (length state.text), is.1)

-- at most 10,000 places

abbrev IsFew : Said → Type 0
IsFew (Fates shard fate moment state places texts) = length places ≤ 10000
IsFew (Closed shard window moment) = Unit {0}
IsFew (Deleted fate moment places texts) = length places ≤ 10000
IsFew (State shard moment state) = Unit {0}
IsFew (Tried shard moment tries places texts) = length places ≤ 10000
IsFew (WindowTried shard window moment tries) = Unit {0}
IsFew (Replayed shard moment places texts) = length places ≤ 10000

said_size : (said : Said) → IsSaid said → IsFew said → length (payload_of said) ≤ MAX_PAYLOAD
said_size (Fates shard fate moment state places texts) is few =
    let behind = flagged_bytes state ++ named_bytes places texts in
    omega (
      arith,
      length-append (eight shard) (fate_byte fate ∷ (eight moment ++ behind)),
      eight_size shard,
      length-append (eight moment) behind,
      eight_size moment,
      length-append (flagged_bytes state) (named_bytes places texts),
      flagged_size state is.2,
      named_size is_sequence sequence_size places texts is.4 few,
    )
said_size (Closed shard window moment) is few =
    omega (arith, length-append (eight shard) (eight window ++ eight moment), eight_size shard, length-append (eight window) (eight moment), eight_size window, eight_size moment)
said_size (Deleted fate moment places texts) is few =
    omega (arith, length-append (eight moment) (named_bytes places texts), eight_size moment, named_size is_message_id id_size places texts is.2 few)
said_size (State shard moment state) is few =
    let text = text_bytes state.text in
    omega (
      arith,
      length-append (eight shard) (eight state.window ++ (eight moment ++ text)),
      eight_size shard,
      length-append (eight state.window) (eight moment ++ text),
      eight_size state.window,
      length-append (eight moment) text,
      eight_size moment,
      length-append (four (length state.text)) state.text,
      four_size (length state.text),
      is.2.1,
    )
said_size (Tried shard moment tries places texts) is few =
    let named = named_bytes places texts in
    omega (
      arith,
      length-append (eight shard) (eight moment ++ (four tries ++ named)),
      eight_size shard,
      length-append (eight moment) (four tries ++ named),
      eight_size moment,
      length-append (four tries) named,
      four_size tries,
      named_size is_sequence sequence_size places texts is.3 few,
    )
said_size (WindowTried shard window moment tries) is few =
    omega (
      arith,
      length-append (eight shard) (eight window ++ (eight moment ++ four tries)),
      eight_size shard,
      length-append (eight window) (eight moment ++ four tries),
      eight_size window,
      length-append (eight moment) (four tries),
      eight_size moment,
      four_size tries,
    )
said_size (Replayed shard moment places texts) is few =
    let named = named_bytes places texts in
    omega (arith, length-append (eight shard) (eight moment ++ named), eight_size shard, length-append (eight moment) named, eight_size moment, named_size is_sequence sequence_size places texts is.2 few)

-- the pieces

abbrev Few : Piece → Type 0
Few p = length p.places ≤ 10000

below : (n : ℕ) (a b : Bool) → ((a && b) && nat_lt n 10000) ≡ true → n < 10000
below n true true test = grind (arith, nat_tests)
below n true false test = cc
below n false b test = cc

few_either : (room : Bool) (p : Piece) (ps : List Piece) (e : Entry) → (room ≡ true → length p.places < 10000) → AllByRecursion Few (p ∷ ps) → AllByRecursion Few (if room then grown p e ∷ ps else piece_of e ∷ p ∷ ps)
few_either true p ps e room all = (omega (arith, length-append p.places (e.0.1 ∷ []), room refl), all.1)
few_either false p ps e room all = (omega arith, all)

few_after : (ps : List Piece) (e : Entry) → AllByRecursion Few ps → AllByRecursion Few (piece_after ps e)
few_after [] e all = (omega arith, tt)
few_after (p ∷ ps) e all = few_either (has_room p e.0.0) p ps e (below (length p.places) (p.group.0 == e.0.0.0) (p.group.1 == e.0.0.1)) all

few_pieces : (es : List Entry) (ps : List Piece) → AllByRecursion Few ps → AllByRecursion Few (pieces_after ps es)
few_pieces [] ps all = all
few_pieces (e ∷ es) ps all = few_pieces es (piece_after ps e) (few_after ps e all)

few_mapped : {X : Type 0} (P : X → Type 0) (f : X → Said) → ((x : X) → P x → IsFew (f x)) → (xs : List X) → AllByRecursion P xs → AllByRecursion IsFew (map f xs)
few_mapped P f each [] all = tt
few_mapped P f each (x ∷ xs) all = (each x all.0, few_mapped P f each xs all.1)

each_few : {X : Type 0} (f : X → Said) → ((x : X) → IsFew (f x)) → (xs : List X) → AllByRecursion IsFew (map f xs)
each_few f each [] = tt
each_few f each (x ∷ xs) = (each x, each_few f each xs)

few_named : (f : Piece → Said) → ((p : Piece) → Few p → IsFew (f p)) → (es : List Entry) → AllByRecursion IsFew (map f (pieces es))
few_named f each es = few_mapped Few f each (pieces es) (all_turned Few (pieces_after [] es) (few_pieces es [] tt))

all_few : (h saids : List Said) → IsCompacted h saids → AllByRecursion IsFew saids
all_few h saids c =
    let m = greatest_moment h in
    let a = map (fates_of m) (pieces c.fates) in
    let b = map (tried_of m) (pieces c.tries) in
    let d = map (replayed_of m) (pieces c.replays) in
    let s = map (state_of_window m) c.states in
    let w = map (tried_of_window m) c.window_tries in
    let e = map (deleted_of m) (pieces c.deletions) in
    let all : AllByRecursion IsFew (a ++ b ++ d ++ s ++ w ++ e) =
    all_joined IsFew (a ++ b ++ d ++ s ++ w) e
    (all_joined IsFew (a ++ b ++ d ++ s) w
    (all_joined IsFew (a ++ b ++ d) s
    (all_joined IsFew (a ++ b) d
    (all_joined IsFew a b (few_named (fates_of m) (λ p few. few) c.fates) (few_named (tried_of m) (λ p few. few) c.tries))
    (few_named (replayed_of m) (λ p few. few) c.replays))
    (each_few (state_of_window m) (λ x. tt) c.states))
    (each_few (tried_of_window m) (λ x. tt) c.window_tries))
    (few_named (deleted_of m) (λ p few. few) c.deletions) in
    subst (AllByRecursion IsFew) (sym c.parts) all

short_ahead : (payload : List ℕ) (payloads : List (List ℕ)) → length payload ≤ MAX_PAYLOAD → All (λ payload. length payload ≤ MAX_PAYLOAD) payloads → All (λ payload. length payload ≤ MAX_PAYLOAD) (payload ∷ payloads)
short_ahead payload payloads le short zero d lt = le
short_ahead payload payloads le short (suc k) d lt = short k d (omega (arith, lt))

all_short : (saids : List Said) → AllByRecursion IsSaid saids → AllByRecursion IsFew saids → All (λ payload. length payload ≤ MAX_PAYLOAD) (map payload_of saids)
all_short [] said few = λ k d lt. absurd (omega (arith, lt))
all_short (s ∷ saids) said few = short_ahead (payload_of s) (map payload_of saids) (said_size s said.0 few.0) (all_short saids said.1 few.1)

pub compacted_short : (h saids : List Said) → IsCompacted h saids → AllSaid h → All (λ payload. length payload ≤ MAX_PAYLOAD) (map payload_of saids)
compacted_short h saids c said = all_short saids (all_may h saids c said) (all_few h saids c)
