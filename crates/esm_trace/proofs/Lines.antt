-- The lines of entries: each tells its entry, and where it ends.
use Rattle.std.proofs.Common.{◌≡◌, ◌∙◌, ℕ, ◌+◌, ◌*◌, true, refl, sym, ap, List, [], ◌∷◌, ◌++◌, append_assoc, All, drop, codes, slice_index, decimal, Option, IfSome}
use Rattle.std.specs.List.{list_all, flat_map}
use Rattle.esm_model.specs.declared.config.Kind.{Kind}
use Rattle.esm_model.specs.declared.lane.LaneId.{LaneId}
use Rattle.esm_model.specs.declared.entry.Fate.{Fate}
use Rattle.esm_model.specs.declared.entry.Reply.{Reply}
use Rattle.esm_model.specs.declared.entry.Reply.TheVariants.{Answered, Garbled, Lost}
use Rattle.esm_model.specs.declared.entry.WindowState.{WindowState}
use Rattle.esm_model.specs.declared.entry.Entry.{Entry}
use Rattle.esm_model.specs.declared.entry.Entry.TheVariants.{Came, Began, Ended, Gave, Tried, Closed, Replayed, Shut}
use Rattle.esm_model.specs.Entries.{moment_of}
use Rattle.esm_trace.specs.Trace.{head_part, shard_part, lane_part, places_part, closing_part, reply_part, by_part, fate_part, line_part, state_part, entry_part, entry_line}
use Rattle.esm_trace.specs.Within.{IsLane, IsLaneOf, HasFields, IsWithin}
use Rattle.esm_trace.proofs.Cutting.{first, apart, cons_same, head_is, tail_is, three, four, five, six, seven as tried_onto, five_two}
use Rattle.esm_trace.proofs.Texts.{number_first, is_bare}
use Rattle.esm_trace.proofs.MemberTexts.{head_first, shard_part_first, lane_first, same_lane, places_first, closing_first, closing_stops, reply_first, by_first, fate_first, line_first, state_first}

-- which entry it is

abbrev word_of : Entry → List ℕ
word_of (Came shard first count moment) = codes "came"
word_of (Began lane places closing moment) = codes "began"
word_of (Ended lane reply moment) = codes "ended"
word_of (Gave by shard places fate line state moment) = codes "gave"
word_of (Tried lane places closing tries moment) = codes "tried"
word_of (Closed lane window moment) = codes "closed"
word_of (Replayed shard places moment) = codes "replayed"
word_of (Shut moment) = codes "shut"

-- what tells the words apart: the first two letters
abbrev tag : List ℕ → ℕ
tag word = 256 * slice_index word 0 + slice_index word 1

bare : (e : Entry) → list_all is_bare (word_of e) ≡ true
bare (Came shard first count moment) = refl
bare (Began lane places closing moment) = refl
bare (Ended lane reply moment) = refl
bare (Gave by shard places fate line state moment) = refl
bare (Tried lane places closing tries moment) = refl
bare (Closed lane window moment) = refl
bare (Replayed shard places moment) = refl
bare (Shut moment) = refl

-- the other members of its line, and what follows them

abbrev call_members : Kind → LaneId → List ℕ → List ℕ
call_members kind lane r = shard_part kind lane.shard ++ (lane_part lane.lane ++ r)

abbrev members : Kind → Entry → List ℕ → List ℕ
members kind (Came shard first count moment) r = shard_part kind shard ++ (codes ",\"first\":" ++ (decimal first ++ (codes ",\"count\":" ++ (decimal count ++ r))))
members kind (Began lane places closing moment) r = call_members kind lane (places_part places ++ (closing_part closing ++ r))
members kind (Ended lane reply moment) r = call_members kind lane (reply_part reply ++ r)
members kind (Gave by shard places fate line state moment) r = shard_part kind shard ++ (by_part by ++ (places_part places ++ (fate_part fate ++ (line_part line ++ (state_part state ++ r)))))
members kind (Tried lane places closing tries moment) r = call_members kind lane (places_part places ++ (codes ",\"tries\":" ++ (decimal tries ++ (closing_part closing ++ r))))
members kind (Closed lane window moment) r = call_members kind lane (codes ",\"window\":" ++ (decimal window ++ r))
members kind (Replayed shard places moment) r = shard_part kind shard ++ (places_part places ++ r)
members kind (Shut moment) r = r

onto : (kind : Kind) (e : Entry) (r : List ℕ) → entry_part kind e ++ r ≡ head_part (word_of e) (moment_of e) ++ members kind e r
onto kind (Came shard first count moment) r =
    six (head_part (codes "came") moment) (shard_part kind shard) (codes ",\"first\":") (decimal first) (codes ",\"count\":") (decimal count) r
onto kind (Began lane places closing moment) r =
    five (head_part (codes "began") moment) (shard_part kind lane.shard) (lane_part lane.lane) (places_part places) (closing_part closing) r
onto kind (Ended lane reply moment) r =
    four (head_part (codes "ended") moment) (shard_part kind lane.shard) (lane_part lane.lane) (reply_part reply) r
onto kind (Gave by shard places fate line state moment) r =
    five_two (head_part (codes "gave") moment) (shard_part kind shard) (by_part by) (places_part places) (fate_part fate) (line_part line) (state_part state) r
onto kind (Tried lane places closing tries moment) r =
    tried_onto (head_part (codes "tried") moment) (shard_part kind lane.shard) (lane_part lane.lane) (places_part places) (codes ",\"tries\":") (decimal tries) (closing_part closing) r
onto kind (Closed lane window moment) r =
    five (head_part (codes "closed") moment) (shard_part kind lane.shard) (lane_part lane.lane) (codes ",\"window\":") (decimal window) r
onto kind (Replayed shard places moment) r =
    three (head_part (codes "replayed") moment) (shard_part kind shard) (places_part places) r
onto kind (Shut moment) r = refl

-- members tell their entry

call_first : (kind : Kind) (a b : LaneId) (r s : List ℕ) → IsLane kind a → IsLane kind b → call_members kind a (44 ∷ r) ≡ call_members kind b (44 ∷ s) → (a ≡ b) × (44 ∷ r ≡ 44 ∷ s)
call_first kind a b r s ha hb e =
    let shard = shard_part_first kind a.shard b.shard (lane_part a.lane ++ (44 ∷ r)) (lane_part b.lane ++ (44 ∷ s)) ha.shard hb.shard e in
    let lane = lane_first a.lane b.lane r s ha.lane hb.lane shard.1 in
    (same_lane a b shard.0 lane.0, lane.1)

came_first : (kind : Kind) (a b n m c d x y : ℕ) (r s : List ℕ) → x ≡ y → HasFields kind (Came a n c x) → HasFields kind (Came b m d y)
    → members kind (Came a n c x) (125 ∷ r) ≡ members kind (Came b m d y) (125 ∷ s) → (Came a n c x ≡ Came b m d y) × (r ≡ s)
came_first kind a b n m c d x y r s at ha hb e =
    let shard = shard_part_first kind a b (codes ",\"first\":" ++ (decimal n ++ (codes ",\"count\":" ++ (decimal c ++ (125 ∷ r))))) (codes ",\"first\":" ++ (decimal m ++ (codes ",\"count\":" ++ (decimal d ++ (125 ∷ s))))) ha.0 hb.0 e in
    let from = number_first n m (codes ",\"count\":" ++ (decimal c ++ (125 ∷ r))) (codes ",\"count\":" ++ (decimal d ++ (125 ∷ s))) ha.1 hb.1 refl refl (ap (drop 9) shard.1) in
    let count = number_first c d (125 ∷ r) (125 ∷ s) ha.2 hb.2 refl refl (ap (drop 9) from.1) in
    (rw (shard.0, from.0, count.0, at) refl, ap (drop 1) count.1)

began_first : (kind : Kind) (a b : LaneId) (ps qs : List ℕ) (c d : Option ℕ) (x y : ℕ) (r s : List ℕ) → x ≡ y → HasFields kind (Began a ps c x) → HasFields kind (Began b qs d y)
    → members kind (Began a ps c x) (125 ∷ r) ≡ members kind (Began b qs d y) (125 ∷ s) → (Began a ps c x ≡ Began b qs d y) × (r ≡ s)
began_first kind a b ps qs c d x y r s at ha hb e =
    let lane = call_first kind a b (drop 1 (places_part ps ++ (closing_part c ++ (125 ∷ r)))) (drop 1 (places_part qs ++ (closing_part d ++ (125 ∷ s)))) ha.0 hb.0 e in
    let places = places_first ps qs (closing_part c ++ (125 ∷ r)) (closing_part d ++ (125 ∷ s)) ha.1 hb.1 lane.1 in
    let closing = closing_first c d r s ha.2 hb.2 places.1 in
    (rw (lane.0, places.0, closing.0, at) refl, closing.1)

reply_comma : (x : Reply) (r : List ℕ) → reply_part x ++ r ≡ 44 ∷ drop 1 (reply_part x ++ r)
reply_comma (Answered status error body) r = refl
reply_comma (Garbled bytes) r = refl
reply_comma Lost r = refl

ended_first : (kind : Kind) (a b : LaneId) (p q : Reply) (x y : ℕ) (r s : List ℕ) → x ≡ y → HasFields kind (Ended a p x) → HasFields kind (Ended b q y)
    → members kind (Ended a p x) (125 ∷ r) ≡ members kind (Ended b q y) (125 ∷ s) → (Ended a p x ≡ Ended b q y) × (r ≡ s)
ended_first kind a b p q x y r s at ha hb e =
    let begins = ap (call_members kind a) (sym (reply_comma p (125 ∷ r))) ∙ (e ∙ ap (call_members kind b) (reply_comma q (125 ∷ s))) in
    let lane = call_first kind a b (drop 1 (reply_part p ++ (125 ∷ r))) (drop 1 (reply_part q ++ (125 ∷ s))) ha.0 hb.0 begins in
    let reply = reply_first p q (125 ∷ r) (125 ∷ s) ha.1 hb.1 (reply_comma p (125 ∷ r) ∙ (lane.1 ∙ sym (reply_comma q (125 ∷ s)))) in
    (rw (lane.0, reply.0, at) refl, ap (drop 1) reply.1)

gave_first : (kind : Kind) (a b : Option LaneId) (n m : ℕ) (ps qs : List ℕ) (f g : Fate) (t u : Option (List ℕ)) (v w : Option WindowState) (x y : ℕ) (r s : List ℕ)
    → x ≡ y → HasFields kind (Gave a n ps f t v x) → HasFields kind (Gave b m qs g u w y)
    → members kind (Gave a n ps f t v x) (125 ∷ r) ≡ members kind (Gave b m qs g u w y) (125 ∷ s) → (Gave a n ps f t v x ≡ Gave b m qs g u w y) × (r ≡ s)
gave_first kind a b n m ps qs f g t u v w x y r s at ha hb e =
    let ends = line_part t ++ (state_part v ++ (125 ∷ r)) in
    let stops = line_part u ++ (state_part w ++ (125 ∷ s)) in
    let shard = shard_part_first kind n m (by_part a ++ (places_part ps ++ (fate_part f ++ ends))) (by_part b ++ (places_part qs ++ (fate_part g ++ stops))) ha.0 hb.0 e in
    let of_shard : IfSome b (IsLaneOf n) = rw shard.0 hb.1 in
    let by = by_first n a b ps qs (fate_part f ++ ends) (fate_part g ++ stops) ha.1 of_shard shard.1 in
    let places = places_first ps qs (fate_part f ++ ends) (fate_part g ++ stops) ha.2 hb.2 by.1 in
    let fate = fate_first f g ends stops places.1 in
    let line = line_first t u v w r s fate.1 in
    let state = state_first v w r s ha.3 hb.3 line.1 in
    (rw (by.0, shard.0, places.0, fate.0, line.0, state.0, at) refl, state.1)

tried_first : (kind : Kind) (a b : LaneId) (ps qs : List ℕ) (c d : Option ℕ) (n m x y : ℕ) (r s : List ℕ) → x ≡ y → HasFields kind (Tried a ps c n x) → HasFields kind (Tried b qs d m y)
    → members kind (Tried a ps c n x) (125 ∷ r) ≡ members kind (Tried b qs d m y) (125 ∷ s) → (Tried a ps c n x ≡ Tried b qs d m y) × (r ≡ s)
tried_first kind a b ps qs c d n m x y r s at ha hb e =
    let ends = codes ",\"tries\":" ++ (decimal n ++ (closing_part c ++ (125 ∷ r))) in
    let stops = codes ",\"tries\":" ++ (decimal m ++ (closing_part d ++ (125 ∷ s))) in
    let lane = call_first kind a b (drop 1 (places_part ps ++ ends)) (drop 1 (places_part qs ++ stops)) ha.0 hb.0 e in
    let places = places_first ps qs ends stops ha.1 hb.1 lane.1 in
    let tries = number_first n m (closing_part c ++ (125 ∷ r)) (closing_part d ++ (125 ∷ s)) ha.2 hb.2 (closing_stops c r) (closing_stops d s) (ap (drop 9) places.1) in
    let closing = closing_first c d r s ha.3 hb.3 tries.1 in
    (rw (lane.0, places.0, closing.0, tries.0, at) refl, closing.1)

closed_first : (kind : Kind) (a b : LaneId) (n m x y : ℕ) (r s : List ℕ) → x ≡ y → HasFields kind (Closed a n x) → HasFields kind (Closed b m y)
    → members kind (Closed a n x) (125 ∷ r) ≡ members kind (Closed b m y) (125 ∷ s) → (Closed a n x ≡ Closed b m y) × (r ≡ s)
closed_first kind a b n m x y r s at ha hb e =
    let lane = call_first kind a b (drop 1 (codes ",\"window\":" ++ (decimal n ++ (125 ∷ r)))) (drop 1 (codes ",\"window\":" ++ (decimal m ++ (125 ∷ s)))) ha.0 hb.0 e in
    let window = number_first n m (125 ∷ r) (125 ∷ s) ha.1 hb.1 refl refl (ap (drop 10) lane.1) in
    (rw (lane.0, window.0, at) refl, ap (drop 1) window.1)

replayed_first : (kind : Kind) (a b : ℕ) (ps qs : List ℕ) (x y : ℕ) (r s : List ℕ) → x ≡ y → HasFields kind (Replayed a ps x) → HasFields kind (Replayed b qs y)
    → members kind (Replayed a ps x) (125 ∷ r) ≡ members kind (Replayed b qs y) (125 ∷ s) → (Replayed a ps x ≡ Replayed b qs y) × (r ≡ s)
replayed_first kind a b ps qs x y r s at ha hb e =
    let shard = shard_part_first kind a b (places_part ps ++ (125 ∷ r)) (places_part qs ++ (125 ∷ s)) ha.0 hb.0 e in
    let places = places_first ps qs (125 ∷ r) (125 ∷ s) ha.1 hb.1 shard.1 in
    (rw (shard.0, places.0, at) refl, ap (drop 1) places.1)

members_first : (kind : Kind) (a b : Entry) (r s : List ℕ) → tag (word_of a) ≡ tag (word_of b) → moment_of a ≡ moment_of b → HasFields kind a → HasFields kind b
    → members kind a (125 ∷ r) ≡ members kind b (125 ∷ s) → (a ≡ b) × (r ≡ s)
members_first kind (Came a n c x) (Came b m d y) r s same at ha hb e = came_first kind a b n m c d x y r s at ha hb e
members_first kind (Began a ps c x) (Began b qs d y) r s same at ha hb e = began_first kind a b ps qs c d x y r s at ha hb e
members_first kind (Ended a p x) (Ended b q y) r s same at ha hb e = ended_first kind a b p q x y r s at ha hb e
members_first kind (Gave a n ps f t v x) (Gave b m qs g u w y) r s same at ha hb e = gave_first kind a b n m ps qs f g t u v w x y r s at ha hb e
members_first kind (Tried a ps c n x) (Tried b qs d m y) r s same at ha hb e = tried_first kind a b ps qs c d n m x y r s at ha hb e
members_first kind (Closed a n x) (Closed b m y) r s same at ha hb e = closed_first kind a b n m x y r s at ha hb e
members_first kind (Replayed a ps x) (Replayed b qs y) r s same at ha hb e = replayed_first kind a b ps qs x y r s at ha hb e
members_first kind (Shut x) (Shut y) r s same at ha hb e = (ap Shut at, ap (drop 1) e)
members_first kind a b r s same at ha hb e = absurd (apart (tag (word_of a)) (tag (word_of b)) refl same)

-- lines tell their entry

line_first_of : (kind : Kind) (a b : Entry) (r s : List ℕ) → IsWithin kind a → IsWithin kind b → entry_line kind a ++ r ≡ entry_line kind b ++ s → (a ≡ b) × (r ≡ s)
unfolding entry_line
line_first_of kind a b r s ha hb e =
    let ends = 125 ∷ 10 ∷ r in
    let stops = 125 ∷ 10 ∷ s in
    let whole = sym (append_assoc (entry_part kind a) (codes "}\n") r ∙ onto kind a ends) ∙ (e ∙ (append_assoc (entry_part kind b) (codes "}\n") s ∙ onto kind b stops)) in
    let head = head_first (word_of a) (word_of b) (moment_of a) (moment_of b) (members kind a ends) (members kind b stops) (bare a) (bare b) ha.moment hb.moment whole in
    let rest = members_first kind a b (10 ∷ r) (10 ∷ s) (ap tag head.1) head.0 ha.fields hb.fields head.2 in
    (rest.0, ap (drop 1) rest.1)

some_line : (kind : Kind) (a : Entry) (r : List ℕ) → [] ≡ entry_line kind a ++ r → ⊥
unfolding entry_line
some_line kind a r e =
    let begins : first (entry_line kind a ++ r) ≡ 123 = ap first (append_assoc (entry_part kind a) (codes "}\n") r ∙ onto kind a (125 ∷ 10 ∷ r)) in
    apart 0 123 refl (ap first e ∙ begins)

-- the lines of a history, oldest entry first, tell it

pub lines_tell : (kind : Kind) (h k : List Entry) → All (IsWithin kind) h → All (IsWithin kind) k → flat_map (entry_line kind) h ≡ flat_map (entry_line kind) k → h ≡ k
lines_tell kind [] [] hh hk e = refl
lines_tell kind [] (b ∷ k) hh hk e = absurd (some_line kind b (flat_map (entry_line kind) k) e)
lines_tell kind (a ∷ h) [] hh hk e = absurd (some_line kind a (flat_map (entry_line kind) h) (sym e))
lines_tell kind (a ∷ h) (b ∷ k) hh hk e =
    let both = line_first_of kind a b (flat_map (entry_line kind) h) (flat_map (entry_line kind) k) (head_is (IsWithin kind) a h hh) (head_is (IsWithin kind) b k hk) e in
    cons_same a b h k both.0 (lines_tell kind h k (tail_is (IsWithin kind) a h hh) (tail_is (IsWithin kind) b k hk) both.1)
