-- What is read of an event in the form in which a stream's events are written, part by part.
use Rattle.std.proofs.Common.{◌≡◌, ◌∙◌, ℕ, zero, suc, ◌+◌, ◌-◌, ◌<◌, ◌≤◌, ◌≢◌, arith, add-one, Bool, true, refl, sym, ap, subst, List, [], ◌∷◌, ◌++◌, append_assoc, codes, length, length-append, take, drop, drop-cons, get_or, Option, Some, None}
use Rattle.std.specs.Prelude.{IfOk, IfSome, IsTrue, MatchOption, Result, Ok, Err}
use Rattle.std.specs.Borrow.{Bor}
use Rattle.std.specs.List.{list_all}
use Rattle.std.specs.Result.{result_ok}
use Rattle.std.proofs.lemmas.Bool.Decides.{nat_tests}
use Rattle.std.proofs.lemmas.List.{take-append-drop, take_at}
use Rattle.base64.specs.Engines.{standard}
use Rattle.base64.specs.GeneralPurpose.{IsBytes, decode_of, encode_of}
use Rattle.esm_model.specs.EventText.{base64_text}
use Rattle.esm_model.specs.declared.memory.OutOfMemory.{OutOfMemory}
use Rattle.esm_ddb.specs.Event.{ddb_event}
use Rattle.esm_ddb.specs.OwnForm.{AreParts, Becomes, IsDecoded, IsMoment, IsTail, Passes, PassesData, PassesFront, PassesId, PassesMoment, PassesNumber, PassesOwn, PassesTail, Texts, head_text, is_unescaped, part_a, part_b, part_c, part_d, part_e, part_f, part_g, part_h, tail_text, whole_text}
use Rattle.esm_ddb.specs.ReadsBack.{is_byte}
use Rattle.esm_ddb.proofs.Loops.{rest_is}
use Rattle.esm_ddb.proofs.OwnEvents.{after_first, after_other, at_end}
use Rattle.esm_ddb.proofs.ReadBack.{base64_unescaped}

pub if_some : {A : Type 0} (P Q : A → Type 0) (o : Option A) → ((x : A) → P x → Q x) → IfSome o P → IfSome o Q
if_some P Q None f h = tt
if_some P Q (Some x) f h = f x h

-- bytes

byte_one : (x : ℕ) → x < 256 → is_byte x ≡ true
byte_one x h = grind (arith, nat_tests)

pub bytes_are : (m : List ℕ) → IsBytes m → list_all is_byte m ≡ true
bytes_are [] h = refl
bytes_are (x ∷ xs) h = rw (byte_one x (h zero), bytes_are xs (λ i. h (suc i))) refl

-- an element

pub number_passed : (text key behind_key seq behind_seq rest : List ℕ) → text ≡ part_a ++ key → Passes is_unescaped key behind_key → behind_key ≡ part_b ++ seq → Passes is_unescaped seq behind_seq
    → behind_seq ≡ part_c ++ rest → PassesNumber text rest
number_passed text key behind_key seq behind_seq rest a k b q c = record {
  key = k.passed;
  seq = q.passed;
  is = a ∙ ap (λ l. part_a ++ l) (k.is ∙ ap (λ l. k.passed ++ l) (b ∙ ap (λ l. part_b ++ l) (q.is ∙ ap (λ l. q.passed ++ l) c)));
  key_plain = k.all;
  seq_plain = q.all;
}

pub id_passed : (text moment behind_moment id rest : List ℕ) → text ≡ part_d ++ moment → PassesMoment moment behind_moment → behind_moment ≡ 125 ∷ part_e ++ id → Passes is_unescaped id rest
    → PassesId text rest
id_passed text moment behind_moment id rest d m e i = record {
  moment = m.moment;
  id = i.passed;
  is = d ∙ ap (λ l. part_d ++ l) (m.is ∙ ap (λ l. m.moment ++ l) (e ∙ ap (λ l. 125 ∷ part_e ++ l) i.is));
  moment_is = m.read;
  id_plain = i.all;
}

pub front_passed : (text content behind rest before after : List ℕ) → PassesNumber text content → PassesData content behind before after → PassesId behind rest → PassesFront text rest before after
front_passed text content behind rest before after n d i = record {
  key = n.key;
  seq = n.seq;
  bytes = d.bytes;
  moment = i.moment;
  id = i.id;
  payload = d.payload;
  is = n.is ∙ ap (λ l. part_a ++ (n.key ++ (part_b ++ (n.seq ++ (part_c ++ l))))) (d.is ∙ ap (λ l. d.bytes ++ l) i.is);
  key_plain = n.key_plain;
  seq_plain = n.seq_plain;
  bytes_plain = d.plain;
  id_plain = i.id_plain;
  moment_is = i.moment_is;
  data_is = d.data_is;
  written = d.written;
}

tail_read : (f r x g n y h u z rest : List ℕ) → f ++ (r ++ (g ++ (n ++ (h ++ (u ++ (z ++ rest)))))) ≡ (f ++ (r ++ (g ++ (n ++ (h ++ (u ++ z)))))) ++ rest
tail_read f r x g n y h u z rest = simp append_assoc

pub tail_passed : (text role behind_role region behind_region arn behind_arn rest : List ℕ) → text ≡ part_f ++ role → Passes is_unescaped role behind_role → behind_role ≡ part_g ++ region
    → Passes is_unescaped region behind_region → behind_region ≡ part_h ++ arn → Passes is_unescaped arn behind_arn → behind_arn ≡ codes "\"}" ++ rest
    → PassesTail text (take (length text - length rest) text) rest
tail_passed text role behind_role region behind_region arn behind_arn rest f r g n h u e =
    let tail = tail_text r.passed n.passed u.passed in
    let is : text ≡ tail ++ rest =
    f ∙ ap (λ l. part_f ++ l) (r.is ∙ ap (λ l. r.passed ++ l) (g ∙ ap (λ l. part_g ++ l) (n.is ∙ ap (λ l. n.passed ++ l) (h ∙ ap (λ l. part_h ++ l) (u.is ∙ ap (λ l. u.passed ++ l) e)))))
    ∙ tail_read part_f r.passed [] part_g n.passed [] part_h u.passed (codes "\"}") rest in
    let long : length text - length rest ≡ length tail = omega (arith, ap length is, length-append tail rest) in
    let own : take (length text - length rest) text ≡ tail = ap (λ l. take (length text - length rest) l) is ∙ take_at tail rest (length text - length rest) (sym long) in
    record {
      is = is ∙ ap (λ l. l ++ rest) (sym own);
      tail_is = record { role = r.passed; region = n.passed; arn = u.passed; is = own; role_plain = r.all; region_plain = n.all; arn_plain = u.all };
    }

whole_read : (a k b q c d e t w i g r h n j u z rest : List ℕ)
    → a ++ (k ++ (b ++ (q ++ (c ++ (d ++ (e ++ (t ++ (w ++ (i ++ ((g ++ (r ++ (h ++ (n ++ (j ++ (u ++ z)))))) ++ rest))))))))))
    ≡ (a ++ k ++ b ++ q ++ c ++ d ++ e ++ (t ++ w) ++ i ++ g ++ r ++ h ++ n ++ j ++ u ++ z) ++ rest
whole_read a k b q c d e t w i g r h n j u z rest = simp append_assoc

pub own_passed : (text behind tail rest before after : List ℕ) → PassesFront text behind before after → IsTail tail → behind ≡ tail ++ rest → PassesOwn text rest before after
own_passed text behind tail rest before after p t is =
    let texts : Texts = record { key = p.key; seq = p.seq; bytes = p.bytes; moment = p.moment; id = p.id; role = t.role; region = t.region; arn = t.arn } in
    record {
      own = record { texts = texts; payload = p.payload };
      is_own = record {
        plain = record { key = p.key_plain; seq = p.seq_plain; bytes = p.bytes_plain; id = p.id_plain; role = t.role_plain; region = t.region_plain; arn = t.arn_plain; moment = p.moment_is };
        data_is = p.data_is;
      };
      is = p.is
          ∙ ap (λ l. part_a ++ (p.key ++ (part_b ++ (p.seq ++ (part_c ++ (p.bytes ++ (part_d ++ (p.moment ++ (125 ∷ part_e ++ (p.id ++ l)))))))))) (is ∙ ap (λ l. l ++ rest) t.is)
          ∙ whole_read part_a p.key part_b p.seq part_c p.bytes part_d p.moment (125 ∷ part_e) p.id part_f t.role part_g t.region part_h t.arn (codes "\"}") rest
          ∙ ap (λ l. l ++ rest) (ended texts);
      written = p.written;
    }
  where
    ended : (t : Texts) → part_a ++ t.key ++ part_b ++ t.seq ++ part_c ++ t.bytes ++ part_d ++ (t.moment ++ 125 ∷ part_e) ++ t.id ++ part_f ++ t.role ++ part_g ++ t.region ++ part_h ++ t.arn ++ codes "\"}" ≡ whole_text t
    ended t = sym (append_assoc (part_a ++ t.key ++ part_b ++ t.seq ++ part_c ++ t.bytes ++ part_d ++ (t.moment ++ 125 ∷ part_e) ++ t.id ++ part_f ++ t.role ++ part_g ++ t.region ++ part_h ++ t.arn) (codes "\"") (codes "}"))

-- parts

pub part_passed : (s p : List ℕ) (r : Option (Bor (List ℕ))) → MatchOption r ((rest : List ℕ) → s ≢ p ++ rest) (λ x. s ≡ p ++ x.now) → IfSome r (λ x. s ≡ p ++ x.now)
part_passed s p None h = tt
part_passed s p (Some x) h = h

-- the moment

pub moment_read : (text : List ℕ) → 5 ≤ length text → get_or text (length text - 4) 0 ≡ 46
    → AreParts (take (length text - 4) text) (take (length text - (length text - 4 + 1)) (drop (length text - 4 + 1) text)) → IsMoment text
moment_read text long point parts =
    let at = length text - 4 in
    let within : at < length text = omega (arith, long) in
    let rest = take (length text - (at + 1)) (drop (at + 1) text) in
    let split : drop at text ≡ 46 ∷ rest =
    drop-cons text at 0 within ∙ ap (λ (x : ℕ). x ∷ drop (suc at) text) point ∙ ap (λ (n : ℕ). 46 ∷ drop n text) (sym (add-one at)) ∙ ap (λ (l : List ℕ). 46 ∷ l) (sym (rest_is text (at + 1))) in
    record {
      whole = take at text;
      fraction = rest;
      is = sym (take-append-drop at text) ∙ ap (λ (l : List ℕ). take at text ++ l) split;
      digits = parts.digits;
      some = parts.some;
      few = parts.few;
      no_zero = λ e. absurd (parts.no_zero e);
      fraction_digits = parts.fraction_digits;
      three = parts.three;
    }

-- the data

pub decoded : (text payload before after : List ℕ) → decode_of standard text ≡ Ok payload → text ≡ encode_of standard payload → IsBytes payload → after ≡ before ++ payload
    → IsDecoded text before after
unfolding base64_text
decoded text payload before after reads is bytes written = record {
  payload = payload;
  plain = ap (list_all is_unescaped) is ∙ base64_unescaped payload (bytes_are payload bytes);
  data_is = ap result_ok reads;
  written = written;
}

pub data_passed : (text : List ℕ) (at : ℕ) (before after : List ℕ) → IsDecoded (take at text) before after → PassesData text (take (length text - at) (drop at text)) before after
data_passed text at before after d = record {
  bytes = take at text;
  payload = d.payload;
  is = sym (take-append-drop at text) ∙ ap (λ (l : List ℕ). take at text ++ l) (sym (rest_is text at));
  plain = d.plain;
  data_is = d.data_is;
  written = d.written;
}

-- ---- element by element

pub first_passed : (event elements behind tail left start out : List ℕ) → event ≡ head_text ++ elements → start ≡ head_text → PassesFront elements behind start out → PassesTail behind tail left
    → Becomes event out left
first_passed event elements behind tail left start out begins head front t =
    let p = own_passed elements behind tail left start out front t.tail_is t.is in
    subst (λ (l : List ℕ). Becomes event l left) (sym (p.written ∙ ap (λ (l : List ℕ). l ++ p.own.payload) head))
    (after_first event left p.own p.is_own (begins ∙ ap (λ (l : List ℕ). head_text ++ l) p.is))

pub other_passed : (event out comma after left next rest : List ℕ) → Becomes event out left → left ≡ codes "," ++ next → comma ≡ out ++ codes "," → PassesOwn next rest comma after
    → Becomes event after rest
other_passed event out comma after left next rest so begins pushed p =
    subst (λ (l : List ℕ). Becomes event l rest) (sym (p.written ∙ ap (λ (l : List ℕ). l ++ p.own.payload) pushed))
    (after_other event out left rest p.own so p.is_own (begins ∙ ap (λ (l : List ℕ). codes "," ++ l) p.is))

pub shorter : (left next rest before after : List ℕ) → left ≡ codes "," ++ next → PassesOwn next rest before after → length rest < length left
shorter left next rest before after begins p = omega (arith, ap length begins, ap length p.is, length-append (whole_text p.own.texts) rest)

pub last_passed : (event out left last : List ℕ) → Becomes event out left → left ≡ codes "]}" → last ≡ out ++ codes "]}" → ddb_event event ≡ last
last_passed event out left last so is pushed = at_end event out (subst (λ (l : List ℕ). Becomes event out l) is so) ∙ sym pushed

pub some_is : {A : Type 0} (P : A → Type 0) (o : Option A) (x : A) → o ≡ Some x → IfSome o P → P x
some_is P o x is h = subst (λ q. IfSome q P) is h

pub number_last : (text key behind_key seq behind_seq : List ℕ) (r : Option (Bor (List ℕ))) → text ≡ part_a ++ key → Passes is_unescaped key behind_key → behind_key ≡ part_b ++ seq
    → Passes is_unescaped seq behind_seq → IfSome r (λ x. behind_seq ≡ part_c ++ x.now) → IfSome r (λ x. PassesNumber text x.now)
number_last text key behind_key seq behind_seq None a k b q c = tt
number_last text key behind_key seq behind_seq (Some x) a k b q c = number_passed text key behind_key seq behind_seq x.now a k b q c

pub id_last : (text moment behind_moment id : List ℕ) (r : Option (Bor (List ℕ))) → text ≡ part_d ++ moment → PassesMoment moment behind_moment → behind_moment ≡ 125 ∷ part_e ++ id
    → IfSome r (λ x. Passes is_unescaped id x.now) → IfSome r (λ x. PassesId text x.now)
id_last text moment behind_moment id None d m e i = tt
id_last text moment behind_moment id (Some x) d m e i = id_passed text moment behind_moment id x.now d m e i

pub front_last : (text content behind before after : List ℕ) (r : Option (Bor (List ℕ))) → PassesNumber text content → PassesData content behind before after → IfSome r (λ x. PassesId behind x.now)
    → IfSome r (λ x. PassesFront text x.now before after)
front_last text content behind before after None n d i = tt
front_last text content behind before after (Some x) n d i = front_passed text content behind x.now before after n d i

pub own_last : (text behind tail before after : List ℕ) (r : Option (Bor (List ℕ))) → PassesFront text behind before after → IsTail tail → IfSome r (λ x. behind ≡ tail ++ x.now)
    → IfSome r (λ x. PassesOwn text x.now before after)
own_last text behind tail before after None p t is = tt
own_last text behind tail before after (Some x) p t is = own_passed text behind tail x.now before after p t is

pub event_last : (event out left last : List ℕ) (r : Result Bool OutOfMemory) → IfOk r (λ is. IsTrue is → (e : List ℕ) → Becomes e out left → ddb_event e ≡ last) → Becomes event out left
    → IfOk r (λ is. IsTrue is → last ≡ ddb_event event)
event_last event out left last (Ok is) h so = λ yes. sym (h yes event so)
event_last event out left last (Err why) h so = tt
