-- The shorter list says the same, may be said, and none of its payloads is bad.
use Rattle.std.proofs.Common.{◌≡◌, ℕ, Bool, true, false, eqb, not, List, [], ◌∷◌, ◌++◌, Option, Some, None, refl, sym, ap, subst, ◌∙◌}
use Rattle.std.specs.Prelude.{map, reverse}
use Rattle.std.specs.List.{cons_option}
use Rattle.std.specs.Option.{option_or}
use Rattle.std.specs.Map.{lookup}
use Rattle.std.specs.BTreeMap.{is_at}
use Rattle.std.proofs.lemmas.Bool.{and_from}
use Rattle.std.proofs.lemmas.List.{reverse-append, reverse-reverse, map-append, append-nil}
use Rattle.esm_model.specs.Sequence.{is_sequence}
use Rattle.esm_journal_record.specs.declared.said.Said.{Said}
use Rattle.esm_journal_record.specs.Parsing.{said_of}
use Rattle.esm_journal_record.specs.Payload.{payload_of, IsMoment, IsSaid, is_message_id}
use Rattle.esm_journal_state.specs.Meaning.{only_at, fate_said, tries_said, state_said, window_tries_said, replayed_said, deletion_said, known, is_bad, is_good, is_good_said, history, are_good}
use Rattle.esm_journal_state.specs.Pieces.{Key, Entry, Piece, pieces_after, pieces}
use Rattle.esm_journal_state.specs.SaidLists.{pair_cmp}
use Rattle.esm_journal_state.specs.Compact.{greatest_moment, IsListing, fates_look, tries_look, replays_look, deletions_look, fates_of, tried_of, replayed_of, deleted_of, state_of_window, tried_of_window, IsCompacted, SameSaid}
use Rattle.esm_journal_state.proofs.Cutting.{IsPiece, IsCut, cut}
use Rattle.esm_journal_state.proofs.Histories.{Good, AllSaid, state_valid, window_tries_valid, greatest_valid}
use Rattle.esm_journal_state.proofs.Regrouping.{is_pair, itself, pairs_apart, lookup_pair}
use Rattle.esm_journal_state.proofs.KindLemmas.{skip_fates, skip_tries, skip_states, skip_window_tries, skip_replays, skip_deletions, one_byte, fates_same, no_tries_there, fates_good, fates_valid, fates_said, tries_same, tries_good, tries_look_valid, one_number, tried_said, replays_same, replays_good, replays_valid, replays_one_group, replayed_may, deletion_found_as, deletions_same, deletions_good, deletions_valid, deleted_may, states_are, window_tries_are, or_nothing, harmless, all_found, all_mapped, all_joined, all_turned, map_turned}

-- the whole

-- the list of the pieces, the oldest first, turned round
pieces_turned : (f : Piece → Said) (es : List Entry) → reverse (map f (pieces es)) ≡ map f (pieces_after [] es)
pieces_turned f es = map_turned f (pieces es) ∙ ap (map f) (reverse-reverse (pieces_after [] es))

seven_turned : (a b c d e f a' b' c' d' e' f' : List Said) → reverse a ≡ a' → reverse b ≡ b' → reverse c ≡ c' → reverse d ≡ d' → reverse e ≡ e' → reverse f ≡ f'
    → reverse (a ++ b ++ c ++ d ++ e ++ f) ≡ f' ++ (e' ++ (d' ++ (c' ++ (b' ++ (a' ++ [])))))
seven_turned a b c d e f a' b' c' d' e' f' p q r s u v =
    reverse-append (a ++ b ++ c ++ d ++ e) f
    ∙ ap (λ x. x ++ reverse (a ++ b ++ c ++ d ++ e)) v
    ∙ ap (λ x. f' ++ x) (reverse-append (a ++ b ++ c ++ d) e
    ∙ ap (λ x. x ++ reverse (a ++ b ++ c ++ d)) u
    ∙ ap (λ x. e' ++ x) (reverse-append (a ++ b ++ c) d
    ∙ ap (λ x. x ++ reverse (a ++ b ++ c)) s
    ∙ ap (λ x. d' ++ x) (reverse-append (a ++ b) c
    ∙ ap (λ x. x ++ reverse (a ++ b)) r
    ∙ ap (λ x. c' ++ x) (reverse-append a b
    ∙ ap (λ x. x ++ reverse a) q
    ∙ ap (λ x. b' ++ x) (p ∙ sym (append-nil a'))))))

-- the shorter history, the newest first
abbrev shorter : (h saids : List Said) → IsCompacted h saids → List Said
shorter h saids c =
    let m = greatest_moment h in
    map (deleted_of m) (pieces_after [] c.deletions)
    ++ (map (tried_of_window m) (reverse c.window_tries)
    ++ (map (state_of_window m) (reverse c.states)
    ++ (map (replayed_of m) (pieces_after [] c.replays)
    ++ (map (tried_of m) (pieces_after [] c.tries)
    ++ (map (fates_of m) (pieces_after [] c.fates) ++ [])))))

is_shorter : (h saids : List Said) (c : IsCompacted h saids) → reverse saids ≡ shorter h saids c
is_shorter h saids c =
    let m = greatest_moment h in
    ap reverse c.parts
    ∙ seven_turned (map (fates_of m) (pieces c.fates)) (map (tried_of m) (pieces c.tries)) (map (replayed_of m) (pieces c.replays)) (map (state_of_window m) c.states) (map (tried_of_window m) c.window_tries) (map (deleted_of m) (pieces c.deletions))
    (map (fates_of m) (pieces_after [] c.fates)) (map (tried_of m) (pieces_after [] c.tries)) (map (replayed_of m) (pieces_after [] c.replays)) (map (state_of_window m) (reverse c.states)) (map (tried_of_window m) (reverse c.window_tries)) (map (deleted_of m) (pieces_after [] c.deletions))
    (pieces_turned (fates_of m) c.fates) (pieces_turned (tried_of m) c.tries) (pieces_turned (replayed_of m) c.replays) (map_turned (state_of_window m) c.states) (map_turned (tried_of_window m) c.window_tries) (pieces_turned (deleted_of m) c.deletions)

-- the cuts of the four groups
record Cuts (h saids : List Said) (c : IsCompacted h saids) : Type 0 where
  fates : IsCut is_sequence (fates_look h) (pieces_after [] c.fates)
  tries : IsCut is_sequence (tries_look h) (pieces_after [] c.tries)
  replays : IsCut is_sequence (replays_look h) (pieces_after [] c.replays)
  deletions : IsCut is_message_id (deletions_look h) (pieces_after [] c.deletions)

deletions_one_group : (h : List Said) (a b c i : ℕ) (t u : List ℕ) → deletions_look h ((a, b), i) ≡ Some t → deletions_look h ((a, c), i) ≡ Some u → b ≡ c
deletions_one_group h a b c i t u e f = one_byte (deletion_said h i) b c t u (deletion_found_as h ((a, b), i) t e).1 (deletion_found_as h ((a, c), i) u f).1

cuts : (h saids : List Said) (c : IsCompacted h saids) → AllSaid h → Cuts h saids c
cuts h saids c said = record {
  fates = cut is_sequence (fates_look h) (fates_valid h said) (λ a b d i t u e f. one_byte (fate_said h a i) b d t u e f) c.fates c.fates_listed;
  tries = cut is_sequence (tries_look h) (tries_look_valid h said) (λ a b d i t u e f. one_number (tries_said h a i) b d t u e f) c.tries c.tries_listed;
  replays = cut is_sequence (replays_look h) (replays_valid h said) (replays_one_group h) c.replays c.replays_listed;
  deletions = cut is_message_id (deletions_look h) (deletions_valid h said) (deletions_one_group h) c.deletions c.deletions_listed;
}

no_state : (b : Bool) (before : Option (List ℕ)) → option_or (only_at b None) before ≡ before
no_state true before = refl
no_state false before = refl

no_replays_there : (m : ℕ) (fates tries : List Piece) (n i : ℕ) → replayed_said (map (tried_of m) tries ++ (map (fates_of m) fates ++ [])) n i ≡ false
no_replays_there m fates tries n i =
    skip_replays (tried_of m) (λ x n i before. refl) tries (map (fates_of m) fates ++ []) n i ∙ skip_replays (fates_of m) (λ x n i before. refl) fates [] n i

-- the shorter history says the same

says_same : (h saids : List Said) (c : IsCompacted h saids) → AllSaid h → Good h → Cuts h saids c → SameSaid (shorter h saids c) h
says_same h saids c said good k =
    let m = greatest_moment h in
    let h1 = map (fates_of m) (pieces_after [] c.fates) ++ [] in
    let h2 = map (tried_of m) (pieces_after [] c.tries) ++ h1 in
    let h3 = map (replayed_of m) (pieces_after [] c.replays) ++ h2 in
    let h4 = map (state_of_window m) (reverse c.states) ++ h3 in
    let h5 = map (tried_of_window m) (reverse c.window_tries) ++ h4 in
    record {
      fates = λ n i.
          skip_fates (deleted_of m) (λ x n i before. refl) (pieces_after [] c.deletions) h5 n i
          ∙ skip_fates (tried_of_window m) (λ x n i before. refl) (reverse c.window_tries) h4 n i
          ∙ skip_fates (state_of_window m) (λ x n i before. refl) (reverse c.states) h3 n i
          ∙ skip_fates (replayed_of m) (λ x n i before. refl) (pieces_after [] c.replays) h2 n i
          ∙ skip_fates (tried_of m) (λ x n i before. refl) (pieces_after [] c.tries) h1 n i
          ∙ fates_same h m (pieces_after [] c.fates) n i k.fates;
      tries = λ n i.
          skip_tries (deleted_of m) (λ x n i before. refl) (pieces_after [] c.deletions) h5 n i
          ∙ skip_tries (tried_of_window m) (λ x n i before. refl) (reverse c.window_tries) h4 n i
          ∙ skip_tries (state_of_window m) (λ x n i before. refl) (reverse c.states) h3 n i
          ∙ skip_tries (replayed_of m) (λ x n i before. refl) (pieces_after [] c.replays) h2 n i
          ∙ tries_same h m (pieces_after [] c.tries) h1 n i (no_tries_there m (pieces_after [] c.fates) n i) k.tries;
      states = λ n w.
          skip_states (deleted_of m) (λ x n w before. refl) (pieces_after [] c.deletions) h5 n w
          ∙ skip_states (tried_of_window m) (λ x n w before. refl) (reverse c.window_tries) h4 n w
          ∙ states_are m c.states h3 n w (pairs_apart c.states c.states_listed.order)
          ∙ or_nothing (lookup (is_pair itself (n, w)) c.states) (state_said h3 n w)
          (skip_states (replayed_of m) (λ x n w before. refl) (pieces_after [] c.replays) h2 n w
          ∙ skip_states (tried_of m) (λ x n w before. refl) (pieces_after [] c.tries) h1 n w
          ∙ skip_states (fates_of m) (λ x n w before. no_state (eqb x.group.0 n) before) (pieces_after [] c.fates) [] n w)
          ∙ lookup_pair c.states n w
          ∙ c.states_listed.has (n, w);
      window_tries = λ n w.
          skip_window_tries (deleted_of m) (λ x n w before. refl) (pieces_after [] c.deletions) h5 n w
          ∙ window_tries_are m c.window_tries h4 n w (pairs_apart c.window_tries c.window_tries_listed.order)
          ∙ or_nothing (lookup (is_pair itself (n, w)) c.window_tries) (window_tries_said h4 n w)
          (skip_window_tries (state_of_window m) (λ x n w before. refl) (reverse c.states) h3 n w
          ∙ skip_window_tries (replayed_of m) (λ x n w before. refl) (pieces_after [] c.replays) h2 n w
          ∙ skip_window_tries (tried_of m) (λ x n w before. refl) (pieces_after [] c.tries) h1 n w
          ∙ skip_window_tries (fates_of m) (λ x n w before. refl) (pieces_after [] c.fates) [] n w)
          ∙ lookup_pair c.window_tries n w
          ∙ c.window_tries_listed.has (n, w);
      replays = λ n i.
          skip_replays (deleted_of m) (λ x n i before. refl) (pieces_after [] c.deletions) h5 n i
          ∙ skip_replays (tried_of_window m) (λ x n i before. refl) (reverse c.window_tries) h4 n i
          ∙ skip_replays (state_of_window m) (λ x n i before. refl) (reverse c.states) h3 n i
          ∙ replays_same h m (pieces_after [] c.replays) h2 n i said good (no_replays_there m (pieces_after [] c.fates) (pieces_after [] c.tries) n i) k.replays;
      deletions = λ i.
          deletions_same h m (pieces_after [] c.deletions) h5 i
          (skip_deletions (tried_of_window m) (λ x i before. refl) (reverse c.window_tries) h4 i
          ∙ skip_deletions (state_of_window m) (λ x i before. refl) (reverse c.states) h3 i
          ∙ skip_deletions (replayed_of m) (λ x i before. refl) (pieces_after [] c.replays) h2 i
          ∙ skip_deletions (tried_of m) (λ x i before. refl) (pieces_after [] c.tries) h1 i
          ∙ skip_deletions (fates_of m) (λ x i before. refl) (pieces_after [] c.fates) [] i)
          k.deletions;
    }

-- and none of it was bad

stays_good : (h saids : List Said) (c : IsCompacted h saids) → AllSaid h → Good h → Cuts h saids c → Good (shorter h saids c)
stays_good h saids c said good k =
    let m = greatest_moment h in
    let h1 = map (fates_of m) (pieces_after [] c.fates) ++ [] in
    let h2 = map (tried_of m) (pieces_after [] c.tries) ++ h1 in
    let h3 = map (replayed_of m) (pieces_after [] c.replays) ++ h2 in
    let h4 = map (state_of_window m) (reverse c.states) ++ h3 in
    let h5 = map (tried_of_window m) (reverse c.window_tries) ++ h4 in
    let fates1 = λ (n i : ℕ). fates_same h m (pieces_after [] c.fates) n i k.fates in
    let good1 = fates_good h m (pieces_after [] c.fates) k.fates.pieces k.fates.fresh in
    let good2 = tries_good h m (pieces_after [] c.tries) h1 said good fates1 (λ n i. no_tries_there m (pieces_after [] c.fates) n i) k.tries.pieces k.tries.fresh good1 in
    let good3 = replays_good h m (pieces_after [] c.replays) h2 said good
    (λ n i. skip_fates (tried_of m) (λ x n i before. refl) (pieces_after [] c.tries) h1 n i ∙ fates1 n i)
    (λ n i. no_replays_there m (pieces_after [] c.fates) (pieces_after [] c.tries) n i) k.replays.pieces k.replays.fresh good2 in
    let good4 = harmless (state_of_window m) (λ x known. refl) (reverse c.states) h3 good3 in
    let good5 = harmless (tried_of_window m) (λ x known. refl) (reverse c.window_tries) h4 good4 in
    deletions_good h m (pieces_after [] c.deletions) h5
    (λ i. skip_deletions (tried_of_window m) (λ x i before. refl) (reverse c.window_tries) h4 i
    ∙ skip_deletions (state_of_window m) (λ x i before. refl) (reverse c.states) h3 i
    ∙ skip_deletions (replayed_of m) (λ x i before. refl) (pieces_after [] c.replays) h2 i
    ∙ skip_deletions (tried_of m) (λ x i before. refl) (pieces_after [] c.tries) h1 i
    ∙ skip_deletions (fates_of m) (λ x i before. refl) (pieces_after [] c.fates) [] i)
    k.deletions.pieces k.deletions.fresh good5

-- and all of it may be said

state_may : (h : List Said) (m : ℕ) (e : (ℕ × ℕ) × List ℕ) → AllSaid h → IsMoment m → state_said h e.0.0 e.0.1 ≡ Some e.1 → IsSaid (state_of_window m e)
state_may h m e said moment found = let v = state_valid h e.0.0 e.0.1 e.1 said found in (v.0, moment, (v.1, v.2))

window_tried_may : (h : List Said) (m : ℕ) (e : (ℕ × ℕ) × ℕ) → AllSaid h → IsMoment m → window_tries_said h e.0.0 e.0.1 ≡ Some e.1 → IsSaid (tried_of_window m e)
window_tried_may h m e said moment found = let v = window_tries_valid h e.0.0 e.0.1 e.1 said found in (v.0, v.1, moment, v.2)

all_pieces : (f : Piece → Said) (is_text : List ℕ → Bool) (look : Key → Option (List ℕ)) (es : List Entry) → ((p : Piece) → IsPiece is_text look p → IsSaid (f p)) → IsCut is_text look (pieces_after [] es) → AllSaid (map f (pieces es))
all_pieces f is_text look es each is_cut = all_mapped (IsPiece is_text look) f each (pieces es) (all_turned (IsPiece is_text look) (pieces_after [] es) is_cut.pieces)

all_listed : {X : Type 0} (f : (ℕ × ℕ) × X → Said) (look : ℕ × ℕ → Option X) (es : List ((ℕ × ℕ) × X)) → IsListing pair_cmp es look → ((e : (ℕ × ℕ) × X) → look e.0 ≡ Some e.1 → IsSaid (f e)) → AllSaid (map f es)
all_listed {X} f look es listing each =
    all_mapped (λ (e : (ℕ × ℕ) × X). lookup (is_at (pair_cmp e.0)) es ≡ Some e.1) f (λ e found. each e (sym (listing.has e.0) ∙ found)) es (all_found es listing.order)

pub all_may : (h saids : List Said) (c : IsCompacted h saids) → AllSaid h → AllSaid saids
all_may h saids c said =
    let m = greatest_moment h in
    let moment = greatest_valid h said in
    let k = cuts h saids c said in
    let a = map (fates_of m) (pieces c.fates) in
    let b = map (tried_of m) (pieces c.tries) in
    let d = map (replayed_of m) (pieces c.replays) in
    let s = map (state_of_window m) c.states in
    let w = map (tried_of_window m) c.window_tries in
    let e = map (deleted_of m) (pieces c.deletions) in
    let all : AllSaid (a ++ b ++ d ++ s ++ w ++ e) =
    all_joined IsSaid (a ++ b ++ d ++ s ++ w) e
    (all_joined IsSaid (a ++ b ++ d ++ s) w
    (all_joined IsSaid (a ++ b ++ d) s
    (all_joined IsSaid (a ++ b) d
    (all_joined IsSaid a b
    (all_pieces (fates_of m) is_sequence (fates_look h) c.fates (λ p piece. fates_said h m p said moment piece) k.fates)
    (all_pieces (tried_of m) is_sequence (tries_look h) c.tries (λ p piece. tried_said h m p said moment piece) k.tries))
    (all_pieces (replayed_of m) is_sequence (replays_look h) c.replays (λ p piece. replayed_may h m p said moment piece) k.replays))
    (all_listed (state_of_window m) (λ q. state_said h q.0 q.1) c.states c.states_listed (λ x found. state_may h m x said moment found)))
    (all_listed (tried_of_window m) (λ q. window_tries_said h q.0 q.1) c.window_tries c.window_tries_listed (λ x found. window_tried_may h m x said moment found)))
    (all_pieces (deleted_of m) is_message_id (deletions_look h) c.deletions (λ p piece. deleted_may h m p said moment piece) k.deletions) in
    subst AllSaid (sym c.parts) all

-- as payloads

-- what may be said is read again from its own payload
abbrev pub IsReadAgain : Type 0
IsReadAgain = (said : Said) → IsSaid said → said_of (payload_of said) ≡ Some said

pub payloads_good : IsReadAgain → (h : List Said) → AllSaid h → Good h → (are_good (map payload_of h) ≡ true) × (history (map payload_of h) ≡ h)
payloads_good again [] said good = (refl, refl)
payloads_good again (s ∷ h) said good =
    let others = payloads_good again h said.1 good.1 in
    let read = again s said.0 in
    let whole : history (payload_of s ∷ map payload_of h) ≡ s ∷ h = ap (λ o. cons_option o (history (map payload_of h))) read ∙ ap (λ x. s ∷ x) others.1 in
    let fine : is_good (history (map payload_of h)) (payload_of s) ≡ true =
    ap (λ o. is_good_said (history (map payload_of h)) o) read ∙ ap (λ x. not (is_bad (known x) s)) others.1 ∙ ap not good.0 in
    (and_from (are_good (map payload_of h)) (is_good (history (map payload_of h)) (payload_of s)) others.0 fine, whole)

map_turned_payloads : (saids : List Said) → reverse (map payload_of saids) ≡ map payload_of (reverse saids)
map_turned_payloads [] = refl
map_turned_payloads (s ∷ saids) =
    reverse-append (payload_of s ∷ []) (map payload_of saids) ∙ ap (λ x. x ++ payload_of s ∷ []) (map_turned_payloads saids)
    ∙ sym (ap (map payload_of) (reverse-append (s ∷ []) saids) ∙ map-append payload_of (reverse saids) (s ∷ []))

-- the law
pub compacts : IsReadAgain → (h saids : List Said) (payloads : List (List ℕ)) → IsCompacted h saids → AllSaid h → Good h → payloads ≡ map payload_of saids
    → (are_good (reverse payloads) ≡ true) × SameSaid (history (reverse payloads)) h
compacts again h saids payloads c said good e =
    let k = cuts h saids c said in
    let turned = is_shorter h saids c in
    let all : AllSaid (reverse saids) = all_turned IsSaid saids (all_may h saids c said) in
    let fine : Good (reverse saids) = subst Good (sym turned) (stays_good h saids c said good k) in
    let p = payloads_good again (reverse saids) all fine in
    let written : reverse payloads ≡ map payload_of (reverse saids) = ap reverse e ∙ map_turned_payloads saids in (
      ap are_good written ∙ p.0,
      subst (λ x. SameSaid x h) (sym (ap history written ∙ p.1 ∙ turned)) (says_same h saids c said good k),
    )
