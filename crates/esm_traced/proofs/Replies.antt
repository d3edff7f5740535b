-- The calls of a run with one caller, and the replies of its history.
use Rattle.std.proofs.Common.{◌≡◌, ◌∙◌, ℕ, true, refl, sym, ap, List, [], ◌∷◌, ◌++◌, append-nil, map, reverse, Option, Some, None}
use Rattle.std.specs.Prelude.{◌==◌}
use Rattle.std.specs.List.{cons_option, filter_map}
use Rattle.std.specs.Option.{option_to_list}
use Rattle.std.proofs.lemmas.List.{map-append, reverse-append}
use Rattle.esm_model.specs.declared.called.Called.{Called}
use Rattle.esm_model.specs.declared.entry.Entry.{Entry}
use Rattle.esm_model.specs.declared.entry.Entry.TheVariants.{Came, Began, Ended, Gave, Tried, Closed, Replayed, Shut}
use Rattle.esm_model.specs.declared.entry.Reply.{Reply}
use Rattle.esm_model.specs.declared.lane.LaneId.{LaneId}
use Rattle.esm_redrive_model.specs.RedriveReport.{redrive_calls}
use Rattle.esm_redrive_model.specs.RedriveSetting.{RedriveSetting}
use Rattle.esm_redrive_model.specs.RedriveStep.{LegalRedrive}
use Rattle.esm_replay_model.specs.ReplayRun.{replay_calls}
use Rattle.esm_replay_model.specs.ReplaySetting.{ReplaySetting}
use Rattle.esm_trace.specs.Trace.{replies_of, reply_in}

-- one entry more

one_told : (o : Option Reply) → cons_option o [] ≡ option_to_list o
one_told None = refl
one_told (Some reply) = refl

pulled : (o : Option Reply) (front rest : List Reply) → cons_option o (front ++ rest) ≡ cons_option o front ++ rest
pulled None front rest = refl
pulled (Some reply) front rest = refl

told_last : (es : List Entry) (e : Entry) → filter_map reply_in (es ++ e ∷ []) ≡ filter_map reply_in es ++ option_to_list (reply_in e)
told_last [] e = one_told (reply_in e)
told_last (x ∷ es) e = ap (cons_option (reply_in x)) (told_last es e) ∙ pulled (reply_in x) (filter_map reply_in es) (option_to_list (reply_in e))

told_more : (h : List Entry) (e : Entry) → replies_of (e ∷ h) ≡ replies_of h ++ option_to_list (reply_in e)
told_more h e = ap (filter_map reply_in) (reverse-append (e ∷ []) h) ∙ told_last (reverse h) e

quiet : (h : List Entry) (e : Entry) → reply_in e ≡ None → replies_of h ≡ replies_of (e ∷ h)
quiet h e none = sym (told_more h e ∙ ap (λ o. replies_of h ++ option_to_list o) none ∙ append-nil (replies_of h))

replied : (calls : List Called) (h : List Entry) (c : Called) (lane : LaneId) (m : ℕ) → map (λ (x : Called). x.reply) calls ≡ replies_of h
    → map (λ (x : Called). x.reply) (calls ++ c ∷ []) ≡ replies_of (Ended lane c.reply m ∷ h)
replied calls h c lane m so_far = map-append (λ (x : Called). x.reply) calls (c ∷ []) ∙ ap (λ rs. rs ++ c.reply ∷ []) so_far ∙ sym (told_more h (Ended lane c.reply m))

-- a redrive

pub redrive_tells : (s : RedriveSetting) (sends : List ℕ → List ℕ) (h : List Entry) → LegalRedrive s h → map (λ (c : Called). c.reply) (redrive_calls s sends h) ≡ replies_of h
redrive_tells s sends [] legal = refl
redrive_tells s sends (Ended lane reply m ∷ h) legal =
    let zero : (lane.lane == 0) ≡ true = ap (λ (l : LaneId). l.lane == 0) legal.1.1.batcher in
    rw zero (replied (redrive_calls s sends h) h _ lane m (redrive_tells s sends h legal.0))
redrive_tells s sends (Came shard first count m ∷ h) legal = redrive_tells s sends h legal.0 ∙ quiet h (Came shard first count m) refl
redrive_tells s sends (Began lane places closing m ∷ h) legal = redrive_tells s sends h legal.0 ∙ quiet h (Began lane places closing m) refl
redrive_tells s sends (Gave by shard places fate line state m ∷ h) legal = redrive_tells s sends h legal.0 ∙ quiet h (Gave by shard places fate line state m) refl
redrive_tells s sends (Tried lane places closing tries m ∷ h) legal = redrive_tells s sends h legal.0 ∙ quiet h (Tried lane places closing tries m) refl
redrive_tells s sends (Closed lane window m ∷ h) legal = redrive_tells s sends h legal.0 ∙ quiet h (Closed lane window m) refl
redrive_tells s sends (Replayed shard places m ∷ h) legal = redrive_tells s sends h legal.0 ∙ quiet h (Replayed shard places m) refl
redrive_tells s sends (Shut m ∷ h) legal = redrive_tells s sends h legal.0 ∙ quiet h (Shut m) refl

-- a replay

pub replay_tells : (s : ReplaySetting) (sends : List ℕ → List ℕ) (h : List Entry) → map (λ (c : Called). c.reply) (replay_calls s sends h) ≡ replies_of h
replay_tells s sends [] = refl
replay_tells s sends (Ended lane reply m ∷ h) = replied (replay_calls s sends h) h _ lane m (replay_tells s sends h)
replay_tells s sends (Came shard first count m ∷ h) = replay_tells s sends h ∙ quiet h (Came shard first count m) refl
replay_tells s sends (Began lane places closing m ∷ h) = replay_tells s sends h ∙ quiet h (Began lane places closing m) refl
replay_tells s sends (Gave by shard places fate line state m ∷ h) = replay_tells s sends h ∙ quiet h (Gave by shard places fate line state m) refl
replay_tells s sends (Tried lane places closing tries m ∷ h) = replay_tells s sends h ∙ quiet h (Tried lane places closing tries m) refl
replay_tells s sends (Closed lane window m ∷ h) = replay_tells s sends h ∙ quiet h (Closed lane window m) refl
replay_tells s sends (Replayed shard places m ∷ h) = replay_tells s sends h ∙ quiet h (Replayed shard places m) refl
replay_tells s sends (Shut m ∷ h) = replay_tells s sends h ∙ quiet h (Shut m) refl
