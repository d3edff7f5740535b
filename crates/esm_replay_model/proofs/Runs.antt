-- What holds of every run of a replay.
use Rattle.std.proofs.Common.{◌≡◌, ℕ, ◌+◌, ◌*◌, ◌-◌, ◌≤◌, true, false, ◌&&◌, List, [], ◌∷◌, ◌++◌, length, take, refl, sym, ap, ◌∙◌, subst, inl, inr, arith, Option, Some, None}
use Rattle.std.specs.Prelude.{◌==◌}
use Rattle.std.proofs.lemmas.List.{length-append}
use Rattle.std.proofs.lemmas.Bool.{cases_Bool, and_parts, or_cases, false_from_ne_true}
use Rattle.esm_model.specs.declared.lane.LaneId.{LaneId}
use Rattle.esm_model.specs.declared.entry.Reply.{Reply}
use Rattle.esm_model.specs.declared.entry.Entry.{Entry}
use Rattle.esm_model.specs.declared.entry.Entry.TheVariants.{Came, Began, Ended, Gave, Tried, Closed, Replayed, Shut}
use Rattle.esm_model.specs.Setting.{sequences_at}
use Rattle.esm_model.specs.Entries.{holds, calls_begun}
use Rattle.esm_model.specs.Reading.{reading}
use Rattle.esm_model.proofs.Lists.{In, In-append_left}
use Rattle.esm_replay_model.specs.ReplaySetting.{ReplaySetting, config_of, is_named}
use Rattle.esm_replay_model.specs.Pieces.{ReplayPiece, piece, no_piece, first_pieces, replay_fits, next_call, replay_verdict, succeeded_of, pieces_after_call}
use Rattle.esm_replay_model.specs.ReplayRun.{replay_lane, call_out, owed_replay, pieces_left, MayBeginReplay, MayEndReplay, MayReplay, IsReplay}
use Rattle.esm_replay_model.specs.ReplayReport.{is_replayed, named_count}
use Rattle.esm_replay_model.specs.ReplayLaws.{ReplayedOnce, CallsNamed, IsAnswered, ReplayedAsAnswered, CallsWithin}
use Rattle.esm_replay_model.proofs.Counting.{times, In-times, in_piece, in_pieces, in_piece-own, in_no_piece, in_after_call, longest_front, IsNamedOnce, first_once}
use Rattle.esm_replay_model.proofs.Weighing.{weight, reading_counts, lighter, weight_within}

-- how often a history replays a record

abbrev pub replayed_after : ℕ → ℕ → ℕ → Entry → ℕ
replayed_after n i before (Replayed shard places m) = in_piece (piece shard places) n i + before
replayed_after n i before _ = before

abbrev pub replayed_times : List Entry → ℕ → ℕ → ℕ
replayed_times [] n i = 0
replayed_times (e ∷ h) n i = replayed_after n i (replayed_times h n i) e

pub in_piece-some : (m : ℕ) (places : List ℕ) (n i : ℕ) → ((m == n) && holds places i) ≡ true → 1 ≤ in_piece (piece m places) n i
in_piece-some m places n i is =
    let parts = and_parts (m == n) (holds places i) is in
    rw (parts.0) (In-times places i parts.1)

replayed_some : (h : List Entry) (n i : ℕ) → is_replayed h n i ≡ true → 1 ≤ replayed_times h n i
replayed_some [] n i is = cc
replayed_some (Replayed shard places m ∷ h) n i is =
    elim (or_cases ((shard == n) && holds places i) (is_replayed h n i) is) [
      | inl here ↦ (let some : 1 ≤ in_piece (piece shard places) n i = in_piece-some shard places n i here in omega arith)
      | inr there ↦ (let some : 1 ≤ replayed_times h n i = replayed_some h n i there in omega arith)
    ]
replayed_some (Came shard first count m ∷ h) n i is = replayed_some h n i is
replayed_some (Began lane places closing m ∷ h) n i is = replayed_some h n i is
replayed_some (Ended lane reply m ∷ h) n i is = replayed_some h n i is
replayed_some (Gave by shard places f line state m ∷ h) n i is = replayed_some h n i is
replayed_some (Tried lane places closing tries m ∷ h) n i is = replayed_some h n i is
replayed_some (Closed lane window m ∷ h) n i is = replayed_some h n i is
replayed_some (Shut m ∷ h) n i is = replayed_some h n i is

-- the front of the first piece

pub record IsFirstOf (call : ReplayPiece) (ps : List ReplayPiece) : Type 0 where
  pub back : List ℕ
  pub others : List ReplayPiece
  pub pieces : ps ≡ piece call.shard (call.places ++ back) ∷ others

pub first_of : (s : ReplaySetting) (ps : List ReplayPiece) → 1 ≤ length (next_call s ps).places → IsFirstOf (next_call s ps) ps
first_of s [] some = absurd (omega arith)
first_of s (p ∷ others) some =
    let found = longest_front (λ places. replay_fits s (piece p.shard places)) [] p.places in
    record { back = found.0; others = others; pieces = ap (λ xs. piece p.shard xs ∷ others) found.1 }

-- what is called, owed and replayed

abbrev pub flag : List ℕ → ℕ
flag [] = 0
flag (x ∷ xs) = 1

flag_within : (xs : List ℕ) → flag xs ≤ 1
flag_within [] = omega arith
flag_within (x ∷ xs) = omega arith

pub flag_some : (xs : List ℕ) → 1 ≤ length xs → flag xs ≡ 1
flag_some [] some = absurd (omega arith)
flag_some (x ∷ xs) some = refl

-- A record that is to be called, is owed or was replayed was so in the first list, as often; the call that is out is the next
-- one; and each call that ended made the pieces lighter.
pub record Keeps (s : ReplaySetting) (h : List Entry) : Type 0 where
  pub spent : (n i : ℕ) → replayed_times h n i + (in_piece (owed_replay s h) n i + in_pieces (pieces_left s h) n i) ≤ in_pieces (first_pieces s) n i
  pub call : 1 ≤ length (call_out h).places → call_out h ≡ next_call s (pieces_left s h)
  weighed : calls_begun h + weight (pieces_left s h) ≤ weight (first_pieces s) + flag (call_out h).places

keeps_began : (s : ReplaySetting) (h : List Entry) (lane : LaneId) (places : List ℕ) (m : ℕ) → MayBeginReplay s h lane places → Keeps s h → Keeps s (Began lane places None m ∷ h)
keeps_began s h lane places m may k = record {
  spent = λ n i. (let before = k.spent n i in let none : in_piece no_piece n i ≡ 0 = in_no_piece n i in omega arith);
  call = λ some. ap (λ x. piece x places) (ap (λ (l : LaneId). l.shard) may.lane_is) ∙ ap (λ xs. piece (next_call s (pieces_left s h)).shard xs) may.exact;
  weighed = (
      let before = k.weighed in
      let rested : flag (call_out h).places ≡ 0 = ap flag may.rests in
      let out : flag places ≡ 1 = flag_some places may.some in
      omega arith
      );
}

-- what the end of a call leaves
record LeavesLess (s : ReplaySetting) (call : ReplayPiece) (reply : Reply) (ps : List ReplayPiece) : Type 0 where
  spent : (n i : ℕ) → in_piece (succeeded_of s call reply) n i + in_pieces (pieces_after_call s call reply ps) n i ≤ in_pieces ps n i
  weighed : weight (pieces_after_call s call reply ps) + 1 ≤ weight ps

leaves_less : (s : ReplaySetting) (call : ReplayPiece) (reply : Reply) (back : List ℕ) (others : List ReplayPiece) → 1 ≤ length call.places → LeavesLess s call reply (piece call.shard (call.places ++ back) ∷ others)
leaves_less s call reply back others some = record {
  spent = λ n i. in_after_call (replay_verdict s call reply).rest call.shard (replay_verdict s call reply).succeeded call.places back others n i;
  weighed = lighter (config_of s) call.shard call.places back others (reading (config_of s) (sequences_at s.base call.shard call.places) false reply) some (reading_counts (config_of s) (sequences_at s.base call.shard call.places) false reply);
}

ends : (s : ReplaySetting) (h : List Entry) (reply : Reply) → Keeps s h → 1 ≤ length (call_out h).places → LeavesLess s (call_out h) reply (pieces_left s h)
ends s h reply k some =
    let is = k.call some in
    let first : IsFirstOf (call_out h) (pieces_left s h) = subst (λ (c : ReplayPiece). IsFirstOf c (pieces_left s h)) (sym is) (first_of s (pieces_left s h) (subst (λ (c : ReplayPiece). 1 ≤ length c.places) is some)) in
    subst (λ (ps : List ReplayPiece). LeavesLess s (call_out h) reply ps) (sym first.pieces) (leaves_less s (call_out h) reply first.back first.others some)

keeps_ended : (s : ReplaySetting) (h : List Entry) (lane : LaneId) (reply : Reply) (m : ℕ) → MayEndReplay s h lane → Keeps s h → Keeps s (Ended lane reply m ∷ h)
keeps_ended s h lane reply m may k =
    let less = ends s h reply k may.runs in
    record {
      spent = λ n i. (let before = k.spent n i in let now = less.spent n i in omega arith);
      call = λ some. absurd (omega arith);
      weighed = (let before = k.weighed in let now = less.weighed in let out : flag (call_out h).places ≤ 1 = flag_within (call_out h).places in omega arith);
    }

-- no call is out where a `Replayed` follows
pub rests : (s : ReplaySetting) (h : List Entry) (shard : ℕ) (places : List ℕ) (m : ℕ) → MayReplay s h shard places m → flag (call_out h).places ≡ 0
rests s [] shard places m may = refl
rests s (Began lane xs closing w ∷ h) shard places m may = (let none : places ≡ [] = may.exact in let some : 1 ≤ length places = may.some in let empty : length places ≡ 0 = ap length none in absurd (omega arith))
rests s (Ended lane reply w ∷ h) shard places m may = refl
rests s (Came n first count w ∷ h) shard places m may = refl
rests s (Gave by n xs f line state w ∷ h) shard places m may = refl
rests s (Tried lane xs closing tries w ∷ h) shard places m may = refl
rests s (Closed lane window w ∷ h) shard places m may = refl
rests s (Replayed n xs w ∷ h) shard places m may = refl
rests s (Shut w ∷ h) shard places m may = refl

keeps_replayed : (s : ReplaySetting) (h : List Entry) (shard : ℕ) (places : List ℕ) (m : ℕ) → MayReplay s h shard places m → Keeps s h → Keeps s (Replayed shard places m ∷ h)
keeps_replayed s h shard places m may k =
    let owed : piece shard places ≡ owed_replay s h = ap (λ x. piece x places) may.shard_is ∙ ap (λ xs. piece (owed_replay s h).shard xs) may.exact in
    record {
      spent = λ n i. (
          let before = k.spent n i in
          let none : in_piece no_piece n i ≡ 0 = in_no_piece n i in
          let same : in_piece (piece shard places) n i ≡ in_piece (owed_replay s h) n i = ap (λ p. in_piece p n i) owed in
          omega arith
          );
      call = λ some. absurd (omega arith);
      weighed = (let before = k.weighed in let out : flag (call_out h).places ≡ 0 = rests s h shard places m may in omega arith);
    }

pub keeps : (s : ReplaySetting) (h : List Entry) → IsReplay s h → Keeps s h
keeps s [] run = record {
  spent = λ n i. (let none : in_piece no_piece n i ≡ 0 = in_no_piece n i in omega arith);
  call = λ some. absurd (omega arith);
  weighed = omega arith;
}
keeps s (Began lane places None m ∷ h) run = keeps_began s h lane places m run.1.1 (keeps s h run.0)
keeps s (Began lane places (Some window) m ∷ h) run = absurd run.1.1
keeps s (Ended lane reply m ∷ h) run = keeps_ended s h lane reply m run.1.1 (keeps s h run.0)
keeps s (Replayed shard places m ∷ h) run = keeps_replayed s h shard places m run.1.1 (keeps s h run.0)
keeps s (Came shard first count m ∷ h) run = absurd run.1.1
keeps s (Gave by shard places f line state m ∷ h) run = absurd run.1.1
keeps s (Tried lane places closing tries m ∷ h) run = absurd run.1.1
keeps s (Closed lane window m ∷ h) run = absurd run.1.1
keeps s (Shut m ∷ h) run = absurd run.1.1

-- the laws

-- the front of a run is a run
front_run : (s : ReplaySetting) (later h : List Entry) → IsReplay s (later ++ h) → IsReplay s h
front_run s [] h run = run
front_run s (e ∷ later) h run = front_run s later h run.0

pub front_at : (s : ReplaySetting) (h later before : List Entry) → IsReplay s h → h ≡ later ++ before → IsReplay s before
front_at s h later before run is = front_run s later before (subst (λ x. IsReplay s x) is run)

-- a record that stands in a piece once more than it was replayed
abbrev IsFresh : ReplaySetting → List Entry → ℕ → ℕ → Type 0
IsFresh s before n i = (is_named s n i ≡ true) × (is_replayed before n i ≡ false)

fresh : (s : ReplaySetting) (before : List Entry) (n i : ℕ) → replayed_times before n i + 1 ≤ in_pieces (first_pieces s) n i → IsFresh s before n i
fresh s before n i some =
    let first : IsNamedOnce s (first_pieces s) n i = first_once s n i in
    let once : in_pieces (first_pieces s) n i ≤ 1 = first.once in (
      elim (cases_Bool (is_named s n i)) [ inl is ↦ is | inr fails ↦ (let none : in_pieces (first_pieces s) n i ≡ 0 = first.named fails in absurd (omega arith)) ],
      false_from_ne_true (is_replayed before n i) (λ is. let one : 1 ≤ replayed_times before n i = replayed_some before n i is in absurd (omega arith)),
    )

pub replayed_once : (s : ReplaySetting) (h : List Entry) → IsReplay s h → ReplayedOnce s h
replayed_once s h run later before shard places m is i member =
    let k : Keeps s (Replayed shard places m ∷ before) = keeps s (Replayed shard places m ∷ before) (front_at s h later (Replayed shard places m ∷ before) run is) in
    let spent = k.spent shard i in
    let own : in_piece (piece shard places) shard i ≡ times places i = in_piece-own shard places i in
    let one : 1 ≤ times places i = In-times places i member in
    fresh s before shard i (omega arith)

pub calls_named : (s : ReplaySetting) (h : List Entry) → IsReplay s h → CallsNamed s h
calls_named s h run later before lane places closing m is i member =
    called s before lane places closing m (front_at s h later (Began lane places closing m ∷ before) run is) i member
  where
    called : (s : ReplaySetting) (before : List Entry) (lane : LaneId) (places : List ℕ) (closing : Option ℕ) (m : ℕ) → IsReplay s (Began lane places closing m ∷ before) → (i : ℕ) → In places i → IsFresh s before lane.shard i
    called s before lane places (Some window) m run i member = absurd run.1.1
    called s before lane places None m run i member =
        let k : Keeps s (Began lane places None m ∷ before) = keeps s (Began lane places None m ∷ before) run in
        let call : piece lane.shard places ≡ next_call s (pieces_left s before) = k.call run.1.1.some in
        let first : IsFirstOf (piece lane.shard places) (pieces_left s before) = subst (λ (c : ReplayPiece). IsFirstOf c (pieces_left s before)) (sym call) (first_of s (pieces_left s before) (subst (λ (c : ReplayPiece). 1 ≤ length c.places) call run.1.1.some)) in
        let spent = k.spent lane.shard i in
        let all : in_pieces (pieces_left s before) lane.shard i ≡ in_piece (piece lane.shard (places ++ first.back)) lane.shard i + in_pieces first.others lane.shard i = ap (λ ps. in_pieces ps lane.shard i) first.pieces in
        let own : in_piece (piece lane.shard (places ++ first.back)) lane.shard i ≡ times (places ++ first.back) i = in_piece-own lane.shard (places ++ first.back) i in
        let one : 1 ≤ times (places ++ first.back) i = In-times (places ++ first.back) i (In-append_left places first.back i member) in
        fresh s before lane.shard i (omega arith)

-- the call before a `Replayed`

lane_of : (s : ReplaySetting) (h : List Entry) (at : LaneId) (batch : List ℕ) (shard : ℕ) → MayBeginReplay s h at batch → shard ≡ at.shard → at ≡ replay_lane shard
lane_of s h at batch shard may here =
    let lane_is : at ≡ replay_lane (next_call s (pieces_left s h)).shard = may.lane_is in
    let same : (next_call s (pieces_left s h)).shard ≡ at.shard = sym (ap (λ (l : LaneId). l.shard) lane_is) in
    lane_is ∙ ap replay_lane (same ∙ sym here)

answered_by : (s : ReplaySetting) (shard : ℕ) (places : List ℕ) (lane : LaneId) (reply : Reply) (m : ℕ) (h : List Entry) → IsReplay s (Ended lane reply m ∷ h) → shard ≡ (call_out h).shard
    → places ≡ (succeeded_of s (call_out h) reply).places → IsAnswered s shard places (Ended lane reply m ∷ h)
answered_by s shard places lane reply m [] run here is = let some : 1 ≤ 0 = run.1.1.runs in absurd (omega arith)
answered_by s shard places lane reply m (Began at batch (Some window) began ∷ h) run here is = absurd run.0.1.1
answered_by s shard places lane reply m (Began at batch None began ∷ h) run here is = record {
  earlier = h;
  batch = batch;
  reply = reply;
  began = began;
  ended = m;
  call = ap (λ (l : LaneId). Ended l reply m ∷ Began at batch None began ∷ h) (run.1.1.lane_is ∙ ap replay_lane (sym here)) ∙ ap (λ (l : LaneId). Ended (replay_lane shard) reply m ∷ Began l batch None began ∷ h) (lane_of s h at batch shard run.0.1.1 here);
  exact = is ∙ ap (λ (n : ℕ). take (replay_verdict s (piece n batch) reply).succeeded batch) (sym here);
}
answered_by s shard places lane reply m (Ended at r w ∷ h) run here is = let some : 1 ≤ 0 = run.1.1.runs in absurd (omega arith)
answered_by s shard places lane reply m (Came n first count w ∷ h) run here is = let some : 1 ≤ 0 = run.1.1.runs in absurd (omega arith)
answered_by s shard places lane reply m (Gave by n xs f line state w ∷ h) run here is = let some : 1 ≤ 0 = run.1.1.runs in absurd (omega arith)
answered_by s shard places lane reply m (Tried at xs closing tries w ∷ h) run here is = let some : 1 ≤ 0 = run.1.1.runs in absurd (omega arith)
answered_by s shard places lane reply m (Closed at window w ∷ h) run here is = let some : 1 ≤ 0 = run.1.1.runs in absurd (omega arith)
answered_by s shard places lane reply m (Replayed n xs w ∷ h) run here is = let some : 1 ≤ 0 = run.1.1.runs in absurd (omega arith)
answered_by s shard places lane reply m (Shut w ∷ h) run here is = let some : 1 ≤ 0 = run.1.1.runs in absurd (omega arith)

owes_none : (s : ReplaySetting) (h : List Entry) (shard : ℕ) (places : List ℕ) (m : ℕ) → MayReplay s h shard places m → (owed_replay s h).places ≡ [] → ⊥
owes_none s h shard places m may none = let some : 1 ≤ length places = may.some in let empty : length places ≡ 0 = ap length (may.exact ∙ none) in absurd (omega arith)

answered : (s : ReplaySetting) (before : List Entry) (shard : ℕ) (places : List ℕ) (m : ℕ) → IsReplay s before → MayReplay s before shard places m → IsAnswered s shard places before
answered s (Ended lane reply w ∷ h) shard places m run may = answered_by s shard places lane reply w h run may.shard_is may.exact
answered s [] shard places m run may = absurd (owes_none s [] shard places m may refl)
answered s (Came n first count w ∷ h) shard places m run may = absurd (owes_none s (Came n first count w ∷ h) shard places m may refl)
answered s (Began lane xs closing w ∷ h) shard places m run may = absurd (owes_none s (Began lane xs closing w ∷ h) shard places m may refl)
answered s (Gave by n xs f line state w ∷ h) shard places m run may = absurd (owes_none s (Gave by n xs f line state w ∷ h) shard places m may refl)
answered s (Tried lane xs closing tries w ∷ h) shard places m run may = absurd (owes_none s (Tried lane xs closing tries w ∷ h) shard places m may refl)
answered s (Closed lane window w ∷ h) shard places m run may = absurd (owes_none s (Closed lane window w ∷ h) shard places m may refl)
answered s (Replayed n xs w ∷ h) shard places m run may = absurd (owes_none s (Replayed n xs w ∷ h) shard places m may refl)
answered s (Shut w ∷ h) shard places m run may = absurd (owes_none s (Shut w ∷ h) shard places m may refl)

pub replayed_as_answered : (s : ReplaySetting) (h : List Entry) → IsReplay s h → ReplayedAsAnswered s h
replayed_as_answered s h run later before shard places m is =
    let here : IsReplay s (Replayed shard places m ∷ before) = front_at s h later (Replayed shard places m ∷ before) run is in
    answered s before shard places m here.0 here.1.1

-- how many calls

some_left : (call : ReplayPiece) (ps : List ReplayPiece) → 1 ≤ length call.places → IsFirstOf call ps → 1 ≤ weight ps
some_left call ps some first =
    let all : weight ps ≡ (2 * length (call.places ++ first.back) - 1) + weight first.others = ap weight first.pieces in
    let long : length (call.places ++ first.back) ≡ length call.places + length first.back = length-append call.places first.back in
    omega arith

out_weighs : (s : ReplaySetting) (h : List Entry) (xs : List ℕ) → Keeps s h → (call_out h).places ≡ xs → flag xs ≤ weight (pieces_left s h)
out_weighs s h [] k is = omega arith
out_weighs s h (x ∷ xs) k is =
    let some : 1 ≤ length (call_out h).places = subst (λ (ys : List ℕ). 1 ≤ length ys) (sym is) (omega arith) in
    let call = k.call some in
    some_left (call_out h) (pieces_left s h) some (subst (λ (c : ReplayPiece). IsFirstOf c (pieces_left s h)) (sym call) (first_of s (pieces_left s h) (subst (λ (c : ReplayPiece). 1 ≤ length c.places) call some)))

pub calls_within : (s : ReplaySetting) (h : List Entry) → IsReplay s h → CallsWithin s h
calls_within s h run =
    let k : Keeps s h = keeps s h run in
    let kept = k.weighed in
    let out : flag (call_out h).places ≤ weight (pieces_left s h) = out_weighs s h (call_out h).places k refl in
    let first : weight (first_pieces s) ≤ 2 * named_count s = weight_within (first_pieces s) in
    omega arith
