-- The members of a line: each tells its value, and where it ends.
use Rattle.std.proofs.Common.{◌≡◌, ◌∙◌, ℕ, Bool, true, false, refl, sym, ap, List, ◌∷◌, ◌++◌, All, drop, codes, slice_index, decimal, Option, Some, None, IfSome, arith}
use Rattle.std.specs.Char.{is_ascii_digit}
use Rattle.std.specs.List.{list_all}
use Rattle.base64.specs.GeneralPurpose.{IsBytes}
use Rattle.esm_model.specs.EventText.{base64_text, shard_id}
use Rattle.esm_model.specs.JsonText.{truth_text}
use Rattle.esm_model.specs.declared.config.Kind.{Kind}
use Rattle.esm_model.specs.declared.config.Kind.TheVariants.{Stream, Standard, Fifo}
use Rattle.esm_model.specs.declared.lane.LaneId.{LaneId}
use Rattle.esm_model.specs.declared.entry.Fate.{Fate}
use Rattle.esm_model.specs.declared.entry.Fate.TheVariants.{Succeeded, Filtered, Expired, Exhausted}
use Rattle.esm_model.specs.declared.entry.Reply.{Reply}
use Rattle.esm_model.specs.declared.entry.Reply.TheVariants.{Answered, Garbled, Lost}
use Rattle.esm_model.specs.declared.entry.WindowState.{WindowState}
use Rattle.esm_trace.specs.Trace.{head_part, shard_part, lane_part, numbers_text, places_part, closing_part, answer_part, reply_part, by_part, fate_word, fate_part, line_part, state_part}
use Rattle.esm_trace.specs.Within.{IsNumber, IsShard, IsLaneOf, IsReply, IsState}
use Rattle.esm_trace.proofs.Cutting.{first, Stops, apart, span, three, five, seven}
use Rattle.esm_trace.proofs.Texts.{number_first, list_first, shard_first, is_bare, base64_first}
use Rattle.esm_trace.proofs.Escapes.{quoted_first}

-- what tells the members of a line apart
abbrev pub third : List ℕ → ℕ
third text = slice_index text 2

-- the moment and the word

pub head_first : (w v : List ℕ) (m n : ℕ) (r s : List ℕ) → list_all is_bare w ≡ true → list_all is_bare v ≡ true → IsNumber m → IsNumber n → head_part w m ++ r ≡ head_part v n ++ s → (m ≡ n) × (w ≡ v) × (r ≡ s)
head_first w v m n r s hw hv hm hn e =
    let whole = sym (five (codes "{\"at\":") (decimal m) (codes ",\"entry\":\"") w (codes "\"") r) ∙ (e ∙ five (codes "{\"at\":") (decimal n) (codes ",\"entry\":\"") v (codes "\"") s) in
    let number = number_first m n (codes ",\"entry\":\"" ++ (w ++ (codes "\"" ++ r))) (codes ",\"entry\":\"" ++ (v ++ (codes "\"" ++ s))) hm hn refl refl (ap (drop 6) whole) in
    let word = span is_bare w v (34 ∷ r) (34 ∷ s) hw hv refl refl (ap (drop 10) number.1) in
    (number.0, word.0, ap (drop 1) word.1)

-- shards and lanes

pub shard_part_first : (kind : Kind) (m n : ℕ) (r s : List ℕ) → IsShard kind m → IsShard kind n → shard_part kind m ++ r ≡ shard_part kind n ++ s → (m ≡ n) × (r ≡ s)
shard_part_first Stream m n r s hm hn e =
    let whole = sym (three (codes ",\"shard\":\"") (shard_id m) (codes "\"") r) ∙ (e ∙ three (codes ",\"shard\":\"") (shard_id n) (codes "\"") s) in
    let both = shard_first m n (34 ∷ r) (34 ∷ s) (omega arith) (omega arith) (ap (drop 10) whole) in
    (both.0, ap (drop 1) both.1)
shard_part_first Standard m n r s hm hn e = (hm ∙ sym hn, ap (drop 16) e)
shard_part_first Fifo m n r s hm hn e = (hm ∙ sym hn, ap (drop 16) e)

pub lane_first : (m n : ℕ) (r s : List ℕ) → IsNumber m → IsNumber n → lane_part m ++ (44 ∷ r) ≡ lane_part n ++ (44 ∷ s) → (m ≡ n) × (44 ∷ r ≡ 44 ∷ s)
lane_first m n r s hm hn e = number_first m n (44 ∷ r) (44 ∷ s) hm hn refl refl (ap (drop 8) e)

pub same_lane : (a b : LaneId) → a.shard ≡ b.shard → a.lane ≡ b.lane → a ≡ b
same_lane a b p q = λ i. record { shard = p i; lane = q i }

-- places

pub places_first : (ps qs r s : List ℕ) → All IsNumber ps → All IsNumber qs → places_part ps ++ r ≡ places_part qs ++ s → (ps ≡ qs) × (r ≡ s)
places_first ps qs r s hp hq e =
    let whole = sym (three (codes ",\"places\":[") (numbers_text ps) (codes "]") r) ∙ (e ∙ three (codes ",\"places\":[") (numbers_text qs) (codes "]") s) in
    list_first ps qs r s hp hq (ap (drop 11) whole)

-- the window of a final call, which stands last

pub closing_first : (c d : Option ℕ) (r s : List ℕ) → IfSome c IsNumber → IfSome d IsNumber → closing_part c ++ (125 ∷ r) ≡ closing_part d ++ (125 ∷ s) → (c ≡ d) × (r ≡ s)
closing_first None None r s hc hd e = (refl, ap (drop 1) e)
closing_first None (Some n) r s hc hd e = absurd (apart 125 44 refl (ap first e))
closing_first (Some m) None r s hc hd e = absurd (apart 44 125 refl (ap first e))
closing_first (Some m) (Some n) r s hc hd e =
    let both = number_first m n (125 ∷ r) (125 ∷ s) hc hd refl refl (ap (drop 11) e) in
    (ap Some both.0, ap (drop 1) both.1)

pub closing_stops : (c : Option ℕ) (r : List ℕ) → Stops is_ascii_digit (closing_part c ++ (125 ∷ r))
closing_stops None r = refl
closing_stops (Some n) r = refl

-- replies

truth_first : (a b : Bool) (r s : List ℕ) → truth_text a ++ r ≡ truth_text b ++ s → (a ≡ b) × (r ≡ s)
truth_first true true r s e = (refl, ap (drop 4) e)
truth_first true false r s e = absurd (apart 116 102 refl (ap first e))
truth_first false true r s e = absurd (apart 102 116 refl (ap first e))
truth_first false false r s e = (refl, ap (drop 5) e)

answer_first : (m n : ℕ) (a b : Bool) (x y r s : List ℕ) → IsNumber m → IsNumber n → IsBytes x → IsBytes y → answer_part m a x ++ r ≡ answer_part n b y ++ s → (Answered m a x ≡ Answered n b y) × (r ≡ s)
answer_first m n a b x y r s hm hn hx hy e =
    let whole =
    sym (seven (codes ",\"status\":") (decimal m) (codes ",\"error\":") (truth_text a) (codes ",\"body\":\"") (base64_text x) (codes "\"") r)
    ∙ (e ∙ seven (codes ",\"status\":") (decimal n) (codes ",\"error\":") (truth_text b) (codes ",\"body\":\"") (base64_text y) (codes "\"") s) in
    let number = number_first m n (codes ",\"error\":" ++ (truth_text a ++ (codes ",\"body\":\"" ++ (base64_text x ++ (codes "\"" ++ r))))) (codes ",\"error\":" ++ (truth_text b ++ (codes ",\"body\":\"" ++ (base64_text y ++ (codes "\"" ++ s))))) hm hn refl refl (ap (drop 10) whole) in
    let truth = truth_first a b (codes ",\"body\":\"" ++ (base64_text x ++ (codes "\"" ++ r))) (codes ",\"body\":\"" ++ (base64_text y ++ (codes "\"" ++ s))) (ap (drop 9) number.1) in
    let body = base64_first x y r s hx hy (ap (drop 9) truth.1) in
    (rw (number.0, truth.0, body.0) refl, body.1)

garbled_first : (x y r s : List ℕ) → IsBytes x → IsBytes y → reply_part (Garbled x) ++ r ≡ reply_part (Garbled y) ++ s → (Garbled x ≡ Garbled y) × (r ≡ s)
garbled_first x y r s hx hy e =
    let whole = sym (three (codes ",\"garbled\":\"") (base64_text x) (codes "\"") r) ∙ (e ∙ three (codes ",\"garbled\":\"") (base64_text y) (codes "\"") s) in
    let body = base64_first x y r s hx hy (ap (drop 12) whole) in
    (rw body.0 refl, body.1)

pub reply_first : (x y : Reply) (r s : List ℕ) → IsReply x → IsReply y → reply_part x ++ r ≡ reply_part y ++ s → (x ≡ y) × (r ≡ s)
reply_first (Answered m a x) (Answered n b y) r s hx hy e = answer_first m n a b x y r s hx.0 hy.0 hx.1 hy.1 e
reply_first (Answered m a x) (Garbled y) r s hx hy e = absurd (apart 115 103 refl (ap third e))
reply_first (Answered m a x) Lost r s hx hy e = absurd (apart 115 108 refl (ap third e))
reply_first (Garbled x) (Answered n b y) r s hx hy e = absurd (apart 103 115 refl (ap third e))
reply_first (Garbled x) (Garbled y) r s hx hy e = garbled_first x y r s hx hy e
reply_first (Garbled x) Lost r s hx hy e = absurd (apart 103 108 refl (ap third e))
reply_first Lost (Answered n b y) r s hx hy e = absurd (apart 108 115 refl (ap third e))
reply_first Lost (Garbled y) r s hx hy e = absurd (apart 108 103 refl (ap third e))
reply_first Lost Lost r s hx hy e = (refl, ap (drop 12) e)

-- fates

pub by_first : (shard : ℕ) (a b : Option LaneId) (ps qs r s : List ℕ) → IfSome a (IsLaneOf shard) → IfSome b (IsLaneOf shard) → by_part a ++ (places_part ps ++ r) ≡ by_part b ++ (places_part qs ++ s) → (a ≡ b) × (places_part ps ++ r ≡ places_part qs ++ s)
by_first shard None None ps qs r s ha hb e = (refl, e)
by_first shard None (Some b) ps qs r s ha hb e = absurd (apart 112 108 refl (ap third e))
by_first shard (Some a) None ps qs r s ha hb e = absurd (apart 108 112 refl (ap third e))
by_first shard (Some a) (Some b) ps qs r s ha hb e =
    let both = number_first a.lane b.lane (places_part ps ++ r) (places_part qs ++ s) ha.lane hb.lane refl refl (ap (drop 8) e) in
    (ap Some (same_lane a b (ha.shard ∙ sym hb.shard) both.0), both.1)

word_bare : (f : Fate) → list_all is_bare (fate_word f) ≡ true
word_bare Succeeded = refl
word_bare Filtered = refl
word_bare Expired = refl
word_bare Exhausted = refl

word_same : (f g : Fate) → third (fate_word f) ≡ third (fate_word g) → f ≡ g
word_same Succeeded Succeeded e = refl
word_same Filtered Filtered e = refl
word_same Expired Expired e = refl
word_same Exhausted Exhausted e = refl
word_same f g e = absurd (apart (third (fate_word f)) (third (fate_word g)) refl e)

pub fate_first : (f g : Fate) (r s : List ℕ) → fate_part f ++ r ≡ fate_part g ++ s → (f ≡ g) × (r ≡ s)
fate_first f g r s e =
    let whole = sym (three (codes ",\"fate\":\"") (fate_word f) (codes "\"") r) ∙ (e ∙ three (codes ",\"fate\":\"") (fate_word g) (codes "\"") s) in
    let word = span is_bare (fate_word f) (fate_word g) (34 ∷ r) (34 ∷ s) (word_bare f) (word_bare g) refl refl (ap (drop 9) whole) in
    (word_same f g (ap third word.0), ap (drop 1) word.1)

-- a state, which stands last

state_some : (a b : WindowState) (r s : List ℕ) → IsState a → IsState b → state_part (Some a) ++ r ≡ state_part (Some b) ++ s → (a ≡ b) × (r ≡ s)
state_some a b r s ha hb e =
    let whole =
    sym (five (codes ",\"window\":") (decimal a.window) (codes ",\"state\":\"") (base64_text a.text) (codes "\"") r)
    ∙ (e ∙ five (codes ",\"window\":") (decimal b.window) (codes ",\"state\":\"") (base64_text b.text) (codes "\"") s) in
    let number = number_first a.window b.window (codes ",\"state\":\"" ++ (base64_text a.text ++ (codes "\"" ++ r))) (codes ",\"state\":\"" ++ (base64_text b.text ++ (codes "\"" ++ s))) ha.window hb.window refl refl (ap (drop 10) whole) in
    let text = base64_first a.text b.text r s ha.text hb.text (ap (drop 10) number.1) in
    (λ i. record { window = number.0 i; text = text.0 i }, text.1)

pub state_first : (a b : Option WindowState) (r s : List ℕ) → IfSome a IsState → IfSome b IsState → state_part a ++ (125 ∷ r) ≡ state_part b ++ (125 ∷ s) → (a ≡ b) × (r ≡ s)
state_first None None r s ha hb e = (refl, ap (drop 1) e)
state_first None (Some b) r s ha hb e = absurd (apart 125 44 refl (ap first e))
state_first (Some a) None r s ha hb e = absurd (apart 44 125 refl (ap first e))
state_first (Some a) (Some b) r s ha hb e =
    let both = state_some a b (125 ∷ r) (125 ∷ s) ha hb e in
    (ap Some both.0, ap (drop 1) both.1)

-- a failure line, behind which a state stands or nothing

not_line : (a : Option WindowState) (line r s : List ℕ) → state_part a ++ (125 ∷ r) ≡ line_part (Some line) ++ s → ⊥
not_line None line r s e = apart 125 44 refl (ap first e)
not_line (Some a) line r s e = apart 119 108 refl (ap third e)

pub line_first : (t u : Option (List ℕ)) (a b : Option WindowState) (r s : List ℕ) → line_part t ++ (state_part a ++ (125 ∷ r)) ≡ line_part u ++ (state_part b ++ (125 ∷ s)) → (t ≡ u) × (state_part a ++ (125 ∷ r) ≡ state_part b ++ (125 ∷ s))
line_first None None a b r s e = (refl, e)
line_first None (Some u) a b r s e = absurd (not_line a u r (state_part b ++ (125 ∷ s)) e)
line_first (Some t) None a b r s e = absurd (not_line b t s (state_part a ++ (125 ∷ r)) (sym e))
line_first (Some t) (Some u) a b r s e =
    let both = quoted_first t u (state_part a ++ (125 ∷ r)) (state_part b ++ (125 ∷ s)) (ap (drop 8) e) in
    (ap Some both.0, both.1)
