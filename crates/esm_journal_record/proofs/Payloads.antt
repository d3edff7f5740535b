-- The two laws of payloads: what is read is spelled so, and what is spelled so is read.
use Rattle.std.proofs.Common.{◌≡◌, ℕ, ◌≤◌, Bool, true, cond, eqb, List, [], ◌∷◌, ◌++◌, length, Option, Some, None, refl, sym, ap, subst, ◌∙◌, inl, inr}
use Rattle.std.specs.Prelude.{IfSome}
use Rattle.std.proofs.lemmas.Bool.{eqb-true}
use Rattle.std.proofs.lemmas.Option.{cond_some}
use Rattle.std.proofs.lemmas.List.{append-nil, nil_from_length}
use Rattle.esm_model.specs.declared.limits.TheConstants.{MAX_DATA}
use Rattle.esm_model.specs.Sequence.{is_sequence}
use Rattle.esm_model.specs.declared.entry.Fate.{Fate}
use Rattle.esm_model.specs.declared.entry.WindowState.{WindowState}
use Rattle.esm_journal_record.specs.declared.names.Named.{Named}
use Rattle.esm_journal_record.specs.declared.said.Said.{Said}
use Rattle.esm_journal_record.specs.declared.said.Said.TheVariants.{Fates, Closed, Deleted, State, Tried, WindowTried, Replayed}
use Rattle.esm_journal_record.specs.Payload.{eight, four, fate_byte, text_bytes, flagged_bytes, named_bytes, payload_of, is_message_id, may_keep, is_deletion, IsShard, IsMoment, IsTries, IsState, AreNamed, IsSaid}
use Rattle.esm_journal_record.specs.Parsing.{◌⊗◌, only, byte_at, shard_at, moment_at, tries_at, fate_at, text_at, state_of, flagged_at, named_at, fates_at, closed_at, deleted_at, state_at, tried_at, window_tried_at, replayed_at, said_at, said_of}
use Rattle.esm_journal_record.proofs.WordLemmas.{sequence_short, id_short}
use Rattle.esm_journal_record.proofs.Fields.{IsBytes, IsBytes-rest, bind_some, chosen, Took, Reads, Reads-both, Reads-only, made_takes, made_again}
use Rattle.esm_journal_record.proofs.Values.{shard_reads, moment_reads, tries_reads, fate_reads, text_reads, flagged_reads, named_reads}

-- the fields of each kind

abbrev spelled_named : Named → List ℕ
spelled_named x = named_bytes x.places x.texts

abbrev Sequences : Named → Type 0
Sequences x = AreNamed is_sequence x.places x.texts

abbrev Ids : Named → Type 0
Ids x = AreNamed is_message_id x.places x.texts

sequences_read : Reads Named (named_at is_sequence) spelled_named Sequences
sequences_read = named_reads is_sequence sequence_short

ids_read : Reads Named (named_at is_message_id) spelled_named Ids
ids_read = named_reads is_message_id id_short

abbrev spelled_fate : Fate → List ℕ
spelled_fate fate = fate_byte fate ∷ []

abbrev IsText : List ℕ → Type 0
IsText text = length text ≤ MAX_DATA

moment_text_reads : Reads (ℕ × List ℕ) (moment_at ⊗ text_at) (λ x. eight x.0 ++ text_bytes x.1) (λ x. IsMoment x.0 × IsText x.1)
moment_text_reads = Reads-both moment_at text_at eight text_bytes IsMoment IsText moment_reads text_reads

two_moments_read : Reads (ℕ × ℕ) (moment_at ⊗ moment_at) (λ x. eight x.0 ++ eight x.1) (λ x. IsMoment x.0 × IsMoment x.1)
two_moments_read = Reads-both moment_at moment_at eight eight IsMoment IsMoment moment_reads moment_reads

moment_tries_read : Reads (ℕ × ℕ) (moment_at ⊗ tries_at) (λ x. eight x.0 ++ four x.1) (λ x. IsMoment x.0 × IsTries x.1)
moment_tries_read = Reads-both moment_at tries_at eight four IsMoment IsTries moment_reads tries_reads

moment_named_reads : (is_text : List ℕ → Bool) → Reads Named (named_at is_text) spelled_named (λ x. AreNamed is_text x.places x.texts)
    → Reads (ℕ × Named) (moment_at ⊗ named_at is_text) (λ x. eight x.0 ++ spelled_named x.1) (λ x. IsMoment x.0 × AreNamed is_text x.1.places x.1.texts)
moment_named_reads is_text named = Reads-both moment_at (named_at is_text) eight spelled_named IsMoment (λ x. AreNamed is_text x.places x.texts) moment_reads named

-- kind 1

abbrev FatesFields : Type 0
FatesFields = ℕ × (Fate × (ℕ × (Option WindowState × Named)))

abbrev fates_fields : List ℕ → Option (FatesFields × List ℕ)
fates_fields = shard_at ⊗ fate_at ⊗ moment_at ⊗ flagged_at ⊗ named_at is_sequence

abbrev fates_spelled : FatesFields → List ℕ
fates_spelled x = eight x.0 ++ (spelled_fate x.1.0 ++ (eight x.1.1.0 ++ (flagged_bytes x.1.1.1.0 ++ spelled_named x.1.1.1.1)))

abbrev FatesHold : FatesFields → Type 0
FatesHold x = IsShard x.0 × (Unit {0} × (IsMoment x.1.1.0 × (IfSome x.1.1.1.0 IsState × Sequences x.1.1.1.1)))

abbrev fates_keep : FatesFields → Bool
fates_keep x = may_keep x.1.0 x.1.1.1.0

abbrev fates_made : FatesFields → Said
fates_made x = Fates x.0 x.1.0 x.1.1.0 x.1.1.1.0 x.1.1.1.1.places x.1.1.1.1.texts

flagged_named_read : Reads (Option WindowState × Named) (flagged_at ⊗ named_at is_sequence) (λ x. flagged_bytes x.0 ++ spelled_named x.1) (λ x. IfSome x.0 IsState × Sequences x.1)
flagged_named_read = Reads-both flagged_at (named_at is_sequence) flagged_bytes spelled_named (λ state. IfSome state IsState) Sequences flagged_reads sequences_read

moment_flagged_read : Reads (ℕ × (Option WindowState × Named)) (moment_at ⊗ flagged_at ⊗ named_at is_sequence) (λ x. eight x.0 ++ (flagged_bytes x.1.0 ++ spelled_named x.1.1)) (λ x. IsMoment x.0 × (IfSome x.1.0 IsState × Sequences x.1.1))
moment_flagged_read = Reads-both moment_at (flagged_at ⊗ named_at is_sequence) eight (λ x. flagged_bytes x.0 ++ spelled_named x.1) IsMoment (λ x. IfSome x.0 IsState × Sequences x.1) moment_reads flagged_named_read

fate_moment_read : Reads (Fate × (ℕ × (Option WindowState × Named))) (fate_at ⊗ moment_at ⊗ flagged_at ⊗ named_at is_sequence)
    (λ x. spelled_fate x.0 ++ (eight x.1.0 ++ (flagged_bytes x.1.1.0 ++ spelled_named x.1.1.1))) (λ x. Unit {0} × (IsMoment x.1.0 × (IfSome x.1.1.0 IsState × Sequences x.1.1.1)))
fate_moment_read =
    Reads-both fate_at (moment_at ⊗ flagged_at ⊗ named_at is_sequence) spelled_fate (λ x. eight x.0 ++ (flagged_bytes x.1.0 ++ spelled_named x.1.1))
    (λ fate. Unit {0}) (λ x. IsMoment x.0 × (IfSome x.1.0 IsState × Sequences x.1.1)) fate_reads moment_flagged_read

fates_read : Reads FatesFields (only fates_keep fates_fields) fates_spelled (λ x. FatesHold x × (fates_keep x ≡ true))
fates_read =
    Reads-only fates_fields fates_spelled FatesHold fates_keep
    (Reads-both shard_at (fate_at ⊗ moment_at ⊗ flagged_at ⊗ named_at is_sequence) eight (λ x. spelled_fate x.0 ++ (eight x.1.0 ++ (flagged_bytes x.1.1.0 ++ spelled_named x.1.1.1)))
    IsShard (λ x. Unit {0} × (IsMoment x.1.0 × (IfSome x.1.1.0 IsState × Sequences x.1.1.1))) shard_reads fate_moment_read)

-- what a kind reads is what may be said, spelled so
abbrev KindTakes : ℕ → (List ℕ → Option (Said × List ℕ)) → Type 0
KindTakes kind field = (bytes : List ℕ) (said : Said) (rest : List ℕ) → IsBytes bytes → field bytes ≡ Some (said, rest) → Took (kind ∷ bytes) (payload_of said) rest × IsSaid said

behind : (kind : ℕ) (bytes text rest : List ℕ) → Took bytes text rest → Took (kind ∷ bytes) (kind ∷ text) rest
behind kind bytes text rest t = record { parts = ap (λ bs. kind ∷ bs) t.parts; fits = t.fits }

fates_take : KindTakes 1 fates_at
unfolding fates_at
fates_take bytes said rest fits e =
    let m = made_takes fates_made (only fates_keep fates_fields) fates_spelled (λ x. FatesHold x × (fates_keep x ≡ true)) fates_read bytes said rest fits e in
    let h = m.3 in
    subst (λ s. Took (1 ∷ bytes) (payload_of s) rest × IsSaid s) m.1 (behind 1 bytes (fates_spelled m.0) rest m.2, (h.0.0, h.0.1.1.0, h.0.1.1.1.0, h.1, h.0.1.1.1.1))

fates_again : (shard : ℕ) (fate : Fate) (moment : ℕ) (state : Option WindowState) (places : List ℕ) (texts : List (List ℕ)) → IsSaid (Fates shard fate moment state places texts)
    → fates_at (eight shard ++ (spelled_fate fate ++ (eight moment ++ (flagged_bytes state ++ named_bytes places texts)))) ≡ Some (Fates shard fate moment state places texts, [])
unfolding fates_at
fates_again shard fate moment state places texts h =
    made_again fates_made (only fates_keep fates_fields) fates_spelled (λ x. FatesHold x × (fates_keep x ≡ true)) fates_read
    (shard, (fate, (moment, (state, record { places = places; texts = texts })))) ((h.0, (tt, (h.1, (h.2, h.4)))), h.3)

-- kind 2

abbrev ClosedHold : ℕ × (ℕ × ℕ) → Type 0
ClosedHold x = IsShard x.0 × (IsMoment x.1.0 × IsMoment x.1.1)

abbrev closed_spelled : ℕ × (ℕ × ℕ) → List ℕ
closed_spelled x = eight x.0 ++ (eight x.1.0 ++ eight x.1.1)

abbrev closed_made : ℕ × (ℕ × ℕ) → Said
closed_made x = Closed x.0 x.1.0 x.1.1

closed_read : Reads (ℕ × (ℕ × ℕ)) (shard_at ⊗ moment_at ⊗ moment_at) closed_spelled ClosedHold
closed_read = Reads-both shard_at (moment_at ⊗ moment_at) eight (λ x. eight x.0 ++ eight x.1) IsShard (λ x. IsMoment x.0 × IsMoment x.1) shard_reads two_moments_read

closed_take : KindTakes 2 closed_at
unfolding closed_at
closed_take bytes said rest fits e =
    let m = made_takes closed_made (shard_at ⊗ moment_at ⊗ moment_at) closed_spelled ClosedHold closed_read bytes said rest fits e in
    subst (λ s. Took (2 ∷ bytes) (payload_of s) rest × IsSaid s) m.1 (behind 2 bytes (closed_spelled m.0) rest m.2, (m.3.0, m.3.1.0, m.3.1.1))

closed_again : (shard window moment : ℕ) → IsSaid (Closed shard window moment) → closed_at (eight shard ++ (eight window ++ eight moment)) ≡ Some (Closed shard window moment, [])
unfolding closed_at
closed_again shard window moment h = made_again closed_made (shard_at ⊗ moment_at ⊗ moment_at) closed_spelled ClosedHold closed_read (shard, (window, moment)) (h.0, (h.1, h.2))

-- kind 3

abbrev DeletedHold : Fate × (ℕ × Named) → Type 0
DeletedHold x = (Unit {0} × (is_deletion x.0 ≡ true)) × (IsMoment x.1.0 × Ids x.1.1)

abbrev deleted_spelled : Fate × (ℕ × Named) → List ℕ
deleted_spelled x = spelled_fate x.0 ++ (eight x.1.0 ++ spelled_named x.1.1)

abbrev deleted_made : Fate × (ℕ × Named) → Said
deleted_made x = Deleted x.0 x.1.0 x.1.1.places x.1.1.texts

abbrev deleted_fields : List ℕ → Option ((Fate × (ℕ × Named)) × List ℕ)
deleted_fields = only is_deletion fate_at ⊗ moment_at ⊗ named_at is_message_id

deleted_read : Reads (Fate × (ℕ × Named)) deleted_fields deleted_spelled DeletedHold
deleted_read =
    Reads-both (only is_deletion fate_at) (moment_at ⊗ named_at is_message_id) spelled_fate (λ x. eight x.0 ++ spelled_named x.1) (λ fate. Unit {0} × (is_deletion fate ≡ true)) (λ x. IsMoment x.0 × Ids x.1)
    (Reads-only fate_at spelled_fate (λ fate. Unit {0}) is_deletion fate_reads) (moment_named_reads is_message_id ids_read)

deleted_take : KindTakes 3 deleted_at
unfolding deleted_at
deleted_take bytes said rest fits e =
    let m = made_takes deleted_made deleted_fields deleted_spelled DeletedHold deleted_read bytes said rest fits e in
    subst (λ s. Took (3 ∷ bytes) (payload_of s) rest × IsSaid s) m.1 (behind 3 bytes (deleted_spelled m.0) rest m.2, (m.3.0.1, m.3.1.0, m.3.1.1))

deleted_again : (fate : Fate) (moment : ℕ) (places : List ℕ) (texts : List (List ℕ)) → IsSaid (Deleted fate moment places texts)
    → deleted_at (spelled_fate fate ++ (eight moment ++ named_bytes places texts)) ≡ Some (Deleted fate moment places texts, [])
unfolding deleted_at
deleted_again fate moment places texts h =
    made_again deleted_made deleted_fields deleted_spelled DeletedHold deleted_read (fate, (moment, record { places = places; texts = texts })) ((tt, h.0), (h.1, h.2))

-- kind 4

abbrev StateHold : ℕ × (ℕ × (ℕ × List ℕ)) → Type 0
StateHold x = IsShard x.0 × (IsMoment x.1.0 × (IsMoment x.1.1.0 × IsText x.1.1.1))

abbrev state_spelled : ℕ × (ℕ × (ℕ × List ℕ)) → List ℕ
state_spelled x = eight x.0 ++ (eight x.1.0 ++ (eight x.1.1.0 ++ text_bytes x.1.1.1))

abbrev state_made : ℕ × (ℕ × (ℕ × List ℕ)) → Said
state_made x = State x.0 x.1.1.0 (state_of (x.1.0, x.1.1.1))

abbrev state_fields : List ℕ → Option ((ℕ × (ℕ × (ℕ × List ℕ))) × List ℕ)
state_fields = shard_at ⊗ moment_at ⊗ moment_at ⊗ text_at

state_read : Reads (ℕ × (ℕ × (ℕ × List ℕ))) state_fields state_spelled StateHold
state_read =
    Reads-both shard_at (moment_at ⊗ moment_at ⊗ text_at) eight (λ x. eight x.0 ++ (eight x.1.0 ++ text_bytes x.1.1)) IsShard (λ x. IsMoment x.0 × (IsMoment x.1.0 × IsText x.1.1)) shard_reads
    (Reads-both moment_at (moment_at ⊗ text_at) eight (λ x. eight x.0 ++ text_bytes x.1) IsMoment (λ x. IsMoment x.0 × IsText x.1) moment_reads moment_text_reads)

state_take : KindTakes 4 state_at
unfolding state_at
state_take bytes said rest fits e =
    let m = made_takes state_made state_fields state_spelled StateHold state_read bytes said rest fits e in
    subst (λ s. Took (4 ∷ bytes) (payload_of s) rest × IsSaid s) m.1 (behind 4 bytes (state_spelled m.0) rest m.2, (m.3.0, m.3.1.1.0, (m.3.1.0, m.3.1.1.1)))

state_again : (shard moment : ℕ) (state : WindowState) → IsSaid (State shard moment state) → state_at (eight shard ++ (eight state.window ++ (eight moment ++ text_bytes state.text))) ≡ Some (State shard moment state, [])
unfolding state_at
state_again shard moment state h = made_again state_made state_fields state_spelled StateHold state_read (shard, (state.window, (moment, state.text))) (h.0, (h.2.0, (h.1, h.2.1)))

-- kind 5

abbrev TriedHold : ℕ × (ℕ × (ℕ × Named)) → Type 0
TriedHold x = IsShard x.0 × (IsMoment x.1.0 × (IsTries x.1.1.0 × Sequences x.1.1.1))

abbrev tried_spelled : ℕ × (ℕ × (ℕ × Named)) → List ℕ
tried_spelled x = eight x.0 ++ (eight x.1.0 ++ (four x.1.1.0 ++ spelled_named x.1.1.1))

abbrev tried_made : ℕ × (ℕ × (ℕ × Named)) → Said
tried_made x = Tried x.0 x.1.0 x.1.1.0 x.1.1.1.places x.1.1.1.texts

abbrev tried_fields : List ℕ → Option ((ℕ × (ℕ × (ℕ × Named))) × List ℕ)
tried_fields = shard_at ⊗ moment_at ⊗ tries_at ⊗ named_at is_sequence

tried_read : Reads (ℕ × (ℕ × (ℕ × Named))) tried_fields tried_spelled TriedHold
tried_read =
    Reads-both shard_at (moment_at ⊗ tries_at ⊗ named_at is_sequence) eight (λ x. eight x.0 ++ (four x.1.0 ++ spelled_named x.1.1)) IsShard (λ x. IsMoment x.0 × (IsTries x.1.0 × Sequences x.1.1)) shard_reads
    (Reads-both moment_at (tries_at ⊗ named_at is_sequence) eight (λ x. four x.0 ++ spelled_named x.1) IsMoment (λ x. IsTries x.0 × Sequences x.1) moment_reads
    (Reads-both tries_at (named_at is_sequence) four spelled_named IsTries Sequences tries_reads sequences_read))

tried_take : KindTakes 5 tried_at
unfolding tried_at
tried_take bytes said rest fits e =
    let m = made_takes tried_made tried_fields tried_spelled TriedHold tried_read bytes said rest fits e in
    subst (λ s. Took (5 ∷ bytes) (payload_of s) rest × IsSaid s) m.1 (behind 5 bytes (tried_spelled m.0) rest m.2, (m.3.0, m.3.1.0, m.3.1.1.0, m.3.1.1.1))

tried_again : (shard moment tries : ℕ) (places : List ℕ) (texts : List (List ℕ)) → IsSaid (Tried shard moment tries places texts)
    → tried_at (eight shard ++ (eight moment ++ (four tries ++ named_bytes places texts))) ≡ Some (Tried shard moment tries places texts, [])
unfolding tried_at
tried_again shard moment tries places texts h =
    made_again tried_made tried_fields tried_spelled TriedHold tried_read (shard, (moment, (tries, record { places = places; texts = texts }))) (h.0, (h.1, (h.2, h.3)))

-- kind 6

abbrev WindowTriedHold : ℕ × (ℕ × (ℕ × ℕ)) → Type 0
WindowTriedHold x = IsShard x.0 × (IsMoment x.1.0 × (IsMoment x.1.1.0 × IsTries x.1.1.1))

abbrev window_tried_spelled : ℕ × (ℕ × (ℕ × ℕ)) → List ℕ
window_tried_spelled x = eight x.0 ++ (eight x.1.0 ++ (eight x.1.1.0 ++ four x.1.1.1))

abbrev window_tried_made : ℕ × (ℕ × (ℕ × ℕ)) → Said
window_tried_made x = WindowTried x.0 x.1.0 x.1.1.0 x.1.1.1

abbrev window_tried_fields : List ℕ → Option ((ℕ × (ℕ × (ℕ × ℕ))) × List ℕ)
window_tried_fields = shard_at ⊗ moment_at ⊗ moment_at ⊗ tries_at

window_tried_read : Reads (ℕ × (ℕ × (ℕ × ℕ))) window_tried_fields window_tried_spelled WindowTriedHold
window_tried_read =
    Reads-both shard_at (moment_at ⊗ moment_at ⊗ tries_at) eight (λ x. eight x.0 ++ (eight x.1.0 ++ four x.1.1)) IsShard (λ x. IsMoment x.0 × (IsMoment x.1.0 × IsTries x.1.1)) shard_reads
    (Reads-both moment_at (moment_at ⊗ tries_at) eight (λ x. eight x.0 ++ four x.1) IsMoment (λ x. IsMoment x.0 × IsTries x.1) moment_reads moment_tries_read)

window_tried_take : KindTakes 6 window_tried_at
unfolding window_tried_at
window_tried_take bytes said rest fits e =
    let m = made_takes window_tried_made window_tried_fields window_tried_spelled WindowTriedHold window_tried_read bytes said rest fits e in
    subst (λ s. Took (6 ∷ bytes) (payload_of s) rest × IsSaid s) m.1 (behind 6 bytes (window_tried_spelled m.0) rest m.2, (m.3.0, m.3.1.0, m.3.1.1.0, m.3.1.1.1))

window_tried_again : (shard window moment tries : ℕ) → IsSaid (WindowTried shard window moment tries)
    → window_tried_at (eight shard ++ (eight window ++ (eight moment ++ four tries))) ≡ Some (WindowTried shard window moment tries, [])
unfolding window_tried_at
window_tried_again shard window moment tries h =
    made_again window_tried_made window_tried_fields window_tried_spelled WindowTriedHold window_tried_read (shard, (window, (moment, tries))) (h.0, (h.1, (h.2, h.3)))

-- kind 7

abbrev ReplayedHold : ℕ × (ℕ × Named) → Type 0
ReplayedHold x = IsShard x.0 × (IsMoment x.1.0 × Sequences x.1.1)

abbrev replayed_spelled : ℕ × (ℕ × Named) → List ℕ
replayed_spelled x = eight x.0 ++ (eight x.1.0 ++ spelled_named x.1.1)

abbrev replayed_made : ℕ × (ℕ × Named) → Said
replayed_made x = Replayed x.0 x.1.0 x.1.1.places x.1.1.texts

abbrev replayed_fields : List ℕ → Option ((ℕ × (ℕ × Named)) × List ℕ)
replayed_fields = shard_at ⊗ moment_at ⊗ named_at is_sequence

replayed_read : Reads (ℕ × (ℕ × Named)) replayed_fields replayed_spelled ReplayedHold
replayed_read =
    Reads-both shard_at (moment_at ⊗ named_at is_sequence) eight (λ x. eight x.0 ++ spelled_named x.1) IsShard (λ x. IsMoment x.0 × Sequences x.1) shard_reads (moment_named_reads is_sequence sequences_read)

replayed_take : KindTakes 7 replayed_at
unfolding replayed_at
replayed_take bytes said rest fits e =
    let m = made_takes replayed_made replayed_fields replayed_spelled ReplayedHold replayed_read bytes said rest fits e in
    subst (λ s. Took (7 ∷ bytes) (payload_of s) rest × IsSaid s) m.1 (behind 7 bytes (replayed_spelled m.0) rest m.2, (m.3.0, m.3.1.0, m.3.1.1))

replayed_again : (shard moment : ℕ) (places : List ℕ) (texts : List (List ℕ)) → IsSaid (Replayed shard moment places texts)
    → replayed_at (eight shard ++ (eight moment ++ named_bytes places texts)) ≡ Some (Replayed shard moment places texts, [])
unfolding replayed_at
replayed_again shard moment places texts h =
    made_again replayed_made replayed_fields replayed_spelled ReplayedHold replayed_read (shard, (moment, record { places = places; texts = texts })) (h.0, (h.1, h.2))

-- any kind

abbrev Read : Type 0
Read = Option (Said × List ℕ)

-- the test for a kind, and the kinds after it
abbrev by_kind : ℕ → ℕ → Read → Read → Read
by_kind k kind read others = cond (eqb kind k) read others

at_kind : (k kind : ℕ) (field : List ℕ → Read) (bytes : List ℕ) (said : Said) (rest : List ℕ) → KindTakes k field → IsBytes bytes → eqb kind k ≡ true → field bytes ≡ Some (said, rest) → Took (kind ∷ bytes) (payload_of said) rest × IsSaid said
at_kind k kind field bytes said rest takes fits is e =
    subst (λ n. Took (n ∷ bytes) (payload_of said) rest × IsSaid said) (sym (eqb-true kind k is)) (takes bytes said rest fits e)

abbrev from_7 : ℕ → List ℕ → Read
from_7 kind bytes = by_kind 7 kind (replayed_at bytes) None

abbrev from_6 : ℕ → List ℕ → Read
from_6 kind bytes = by_kind 6 kind (window_tried_at bytes) (from_7 kind bytes)

abbrev from_5 : ℕ → List ℕ → Read
from_5 kind bytes = by_kind 5 kind (tried_at bytes) (from_6 kind bytes)

abbrev from_4 : ℕ → List ℕ → Read
from_4 kind bytes = by_kind 4 kind (state_at bytes) (from_5 kind bytes)

abbrev from_3 : ℕ → List ℕ → Read
from_3 kind bytes = by_kind 3 kind (deleted_at bytes) (from_4 kind bytes)

abbrev from_2 : ℕ → List ℕ → Read
from_2 kind bytes = by_kind 2 kind (closed_at bytes) (from_3 kind bytes)

kinds_take : (kind : ℕ) (bytes : List ℕ) (said : Said) (rest : List ℕ) → IsBytes bytes → said_at kind bytes ≡ Some (said, rest) → Took (kind ∷ bytes) (payload_of said) rest × IsSaid said
unfolding said_at
kinds_take kind bytes said rest fits e =
    elim (chosen (eqb kind 1) (fates_at bytes) (from_2 kind bytes) (Some (said, rest)) e) [
      | inl is ↦ at_kind 1 kind fates_at bytes said rest fates_take fits is.0 is.1
      | inr not-1 ↦ (elim (chosen (eqb kind 2) (closed_at bytes) (from_3 kind bytes) (Some (said, rest)) not-1.1) [
        | inl is ↦ at_kind 2 kind closed_at bytes said rest closed_take fits is.0 is.1
        | inr not-2 ↦ (elim (chosen (eqb kind 3) (deleted_at bytes) (from_4 kind bytes) (Some (said, rest)) not-2.1) [
          | inl is ↦ at_kind 3 kind deleted_at bytes said rest deleted_take fits is.0 is.1
          | inr not-3 ↦ (elim (chosen (eqb kind 4) (state_at bytes) (from_5 kind bytes) (Some (said, rest)) not-3.1) [
            | inl is ↦ at_kind 4 kind state_at bytes said rest state_take fits is.0 is.1
            | inr not-4 ↦ (elim (chosen (eqb kind 5) (tried_at bytes) (from_6 kind bytes) (Some (said, rest)) not-4.1) [
              | inl is ↦ at_kind 5 kind tried_at bytes said rest tried_take fits is.0 is.1
              | inr not-5 ↦ (elim (chosen (eqb kind 6) (window_tried_at bytes) (from_7 kind bytes) (Some (said, rest)) not-5.1) [
                | inl is ↦ at_kind 6 kind window_tried_at bytes said rest window_tried_take fits is.0 is.1
                | inr not-6 ↦ (elim (chosen (eqb kind 7) (replayed_at bytes) None (Some (said, rest)) not-6.1) [
                  | inl is ↦ at_kind 7 kind replayed_at bytes said rest replayed_take fits is.0 is.1
                  | inr not-7 ↦ absurd cc
                ])
              ])
            ])
          ])
        ])
      ])
    ]

-- the laws

-- what is read may be said, and is spelled so
pub said_takes : (bytes : List ℕ) (said : Said) → IsBytes bytes → said_of bytes ≡ Some said → IsSaid said × (bytes ≡ payload_of said)
unfolding said_of byte_at
said_takes [] said fits e = absurd cc
said_takes (kind ∷ bytes) said fits e =
    let a = bind_some (said_at kind bytes) (λ x. cond (eqb (length x.1) 0) (Some x.0) None) said e in
    let b = cond_some (eqb (length a.0.1) 0) a.0.0 said a.2 in
    let t = kinds_take kind bytes a.0.0 a.0.1 (IsBytes-rest kind bytes fits) a.1 in
    let nothing : a.0.1 ≡ [] = nil_from_length a.0.1 (eqb-true _ _ b.0) in
    let whole : kind ∷ bytes ≡ payload_of a.0.0 = t.0.parts ∙ ap (λ rest. payload_of a.0.0 ++ rest) nothing ∙ append-nil (payload_of a.0.0) in
    subst (λ s. IsSaid s × (kind ∷ bytes ≡ payload_of s)) b.1 (t.1, whole)

-- what may be said is read from its bytes
pub said_again : (said : Said) → IsSaid said → said_of (payload_of said) ≡ Some said
unfolding said_of said_at byte_at
said_again (Fates shard fate moment state places texts) h = rw (fates_again shard fate moment state places texts h) refl
said_again (Closed shard window moment) h = rw (closed_again shard window moment h) refl
said_again (Deleted fate moment places texts) h = rw (deleted_again fate moment places texts h) refl
said_again (State shard moment state) h = rw (state_again shard moment state h) refl
said_again (Tried shard moment tries places texts) h = rw (tried_again shard moment tries places texts h) refl
said_again (WindowTried shard window moment tries) h = rw (window_tried_again shard window moment tries h) refl
said_again (Replayed shard moment places texts) h = rw (replayed_again shard moment places texts h) refl

-- so what is spelled so is read so
pub said_is : (bytes : List ℕ) (said : Said) → IsSaid said → bytes ≡ payload_of said → said_of bytes ≡ Some said
said_is bytes said h e = ap said_of e ∙ said_again said h
