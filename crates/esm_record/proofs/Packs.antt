-- Records whose texts stand in one text, as that text grows.
use Rattle.std.proofs.Common.{◌≡◌, ℕ, true, List, [], ◌∷◌, ◌++◌, length, Option, Some, Result, Ok, IsUtf8, refl, sym, ap, ap₂, ◌∙◌, subst}
use Rattle.std.specs.Prelude.{option_map}
use Rattle.std.specs.Result.{result_ok}
use Rattle.std.proofs.lemmas.Str.{IsUtf8-from_is_utf8}
use Rattle.base64.specs.Engines.{standard}
use Rattle.base64.specs.GeneralPurpose.{decode_of}
use Rattle.esm_model.specs.Records.{Record, part_of, encoded_in, IsPart}
use Rattle.esm_model.specs.Sequence.{is_sequence}
use Rattle.esm_model.specs.declared.item.Item.{Item}
use Rattle.esm_model.specs.declared.item.Item.TheVariants.{Stream}
use Rattle.esm_model.specs.declared.part.Part.{Part}
use Rattle.esm_model.proofs.RecordFacts.{part_still, is_within_still, is_part_still}
use Rattle.esm_record.specs.declared.error.LineError.{LineError}
use Rattle.esm_record.specs.declared.fields.Fields.{Fields}
use Rattle.esm_record.specs.declared.packed.Placed.{Placed}
use Rattle.esm_record.specs.declared.packed.Row.{Row}
use Rattle.esm_record.specs.declared.packed.Row.TheVariants as row
use Rattle.esm_record.specs.Packing.{placed_record, ArePlaced, said_over, IsRowOf, all_said, AreRowsOf}

-- what a line says alone
abbrev pub Said : Type 0
Said = Result (Option Item) LineError

abbrev IsEncoded : ℕ → List ℕ → Type 0
IsEncoded len text = option_map length (result_ok (decode_of standard text)) ≡ Some len

-- ---- a text that grows

placed_still : (text more : List ℕ) (p : Placed) → ArePlaced text p → ArePlaced (text ++ more) p
placed_still text more p are = record {
  seq_within = is_within_still text more p.seq are.seq_within;
  key_within = is_within_still text more p.key are.key_within;
  payload_within = is_within_still text more p.payload are.payload_within;
  number = ap is_sequence (part_still text more p.seq are.seq_within) ∙ are.number;
  utf8 = subst IsUtf8 (sym (part_still text more p.key are.key_within)) are.utf8;
  encoded = subst (IsEncoded p.len) (sym (part_still text more p.payload are.payload_within)) are.encoded;
}

-- the record of these texts
abbrev made : ℕ → ℕ → (seq key payload : List ℕ) → Record
made shard arrival seq key payload = record { shard = shard; seq = seq; key = key; payload = encoded_in payload; arrival = arrival }

same_record : (shard arrival : ℕ) (s1 s2 k1 k2 d1 d2 : List ℕ) → s1 ≡ s2 → k1 ≡ k2 → d1 ≡ d2 → made shard arrival s1 k1 d1 ≡ made shard arrival s2 k2 d2
same_record shard arrival s1 s2 k1 k2 d1 d2 s k d =
    ap (λ (t : List ℕ). made shard arrival t k1 d1) s ∙ ap (λ (t : List ℕ). made shard arrival s2 t d1) k ∙ ap (λ (t : List ℕ). made shard arrival s2 k2 t) d

record_still : (text more : List ℕ) (p : Placed) → ArePlaced text p → placed_record (text ++ more) p ≡ placed_record text p
record_still text more p are =
    same_record p.shard p.arrival (part_of (text ++ more) p.seq) (part_of text p.seq) (part_of (text ++ more) p.key) (part_of text p.key) (part_of (text ++ more) p.payload) (part_of text p.payload)
    (part_still text more p.seq are.seq_within) (part_still text more p.key are.key_within) (part_still text more p.payload are.payload_within)

row_still : (text more : List ℕ) (r : Row) → IsRowOf text r → IsRowOf (text ++ more) r
row_still text more (row.Record p) is = placed_still text more p is
row_still text more (row.Said said) is = tt

said_still : (text more : List ℕ) (r : Row) → IsRowOf text r → said_over (text ++ more) r ≡ said_over text r
said_still text more (row.Record p) is = ap (λ (r : Record). Ok (Some (Stream r))) (record_still text more p is)
said_still text more (row.Said said) is = refl

-- ---- one line more

rows_more : (text more : List ℕ) (rows : List Row) (r : Row) → AreRowsOf text rows → IsRowOf (text ++ more) r → AreRowsOf (text ++ more) (rows ++ r ∷ [])
rows_more text more [] r are is = (is, tt)
rows_more text more (first ∷ rows) r are is = (row_still text more first are.0, rows_more text more rows r are.1 is)

said_more : (text more : List ℕ) (rows : List Row) (r : Row) → AreRowsOf text rows → all_said (text ++ more) (rows ++ r ∷ []) ≡ all_said text rows ++ said_over (text ++ more) r ∷ []
said_more text more [] r are = refl
said_more text more (first ∷ rows) r are = ap₂ (λ (s : Said) (ss : List Said). s ∷ ss) (said_still text more first are.0) (said_more text more rows r are.1)

-- ---- the parts of a record

are_placed : (text : List ℕ) (p : Placed) (f : Fields) → IsPart text p.seq f.seq.now → IsPart text p.key f.key.now → IsPart text p.payload f.payload.text.now → is_sequence f.seq.now ≡ true → IsUtf8 f.key.now → IsEncoded p.len f.payload.text.now → ArePlaced text p
are_placed text p f seq key payload number utf8 encoded = record {
  seq_within = seq.within;
  key_within = key.within;
  payload_within = payload.within;
  number = ap is_sequence seq.is ∙ number;
  utf8 = subst IsUtf8 (sym key.is) utf8;
  encoded = subst (IsEncoded p.len) (sym payload.is) encoded;
}

-- ---- what is put behind a text

part_moved : (text longer more bytes : List ℕ) (p : Part) → longer ≡ text ++ more → IsPart text p bytes → IsPart longer p bytes
part_moved text longer more bytes p e is = subst (λ (l : List ℕ). IsPart l p bytes) (sym e) (is_part_still text more bytes p is)

pub placed_behind : (t1 t2 t3 : List ℕ) (p : Placed) (f : Fields) → t2 ≡ t1 ++ f.key.now → t3 ≡ t2 ++ f.payload.text.now → IsPart t1 p.seq f.seq.now → IsPart t2 p.key f.key.now → IsPart t3 p.payload f.payload.text.now → p.len ≡ f.payload.len → ArePlaced t3 p
placed_behind t1 t2 t3 p f e2 e3 seq key payload len =
    are_placed t3 p f
    (part_moved t2 t3 f.payload.text.now f.seq.now p.seq e3 (part_moved t1 t2 f.key.now f.seq.now p.seq e2 seq))
    (part_moved t2 t3 f.payload.text.now f.key.now p.key e3 key)
    payload f.number (IsUtf8-from_is_utf8 f.key.now f.utf8)
    (subst (λ (n : ℕ). IsEncoded n f.payload.text.now) (sym len) f.payload.encoded)

-- ---- a line more, where the text has grown

pub rows_grown : (text longer more : List ℕ) (rows all : List Row) (r : Row) → longer ≡ text ++ more → all ≡ rows ++ r ∷ [] → AreRowsOf text rows → IsRowOf longer r → AreRowsOf longer all
rows_grown text longer more rows all r e is are row_is =
    let P : List Row → Type 0 = λ l. AreRowsOf longer l in
    let Q : List ℕ → Type 0 = λ t. AreRowsOf t (rows ++ r ∷ []) in
    subst P (sym is) (subst Q (sym e) (rows_more text more rows r are (subst (λ (t : List ℕ). IsRowOf t r) e row_is)))

pub said_grown : (value : List Said) (text longer more : List ℕ) (rows all : List Row) (r : Row) (said : Said) → longer ≡ text ++ more → all ≡ rows ++ r ∷ [] → AreRowsOf text rows → said_over longer r ≡ said → all_said text rows ≡ value → all_said longer all ≡ value ++ said ∷ []
said_grown value text longer more rows all r said e is are says value_is =
    ap (all_said longer) is
    ∙ ap (λ (t : List ℕ). all_said t (rows ++ r ∷ [])) e
    ∙ said_more text more rows r are
    ∙ ap₂ (λ (ss : List Said) (s : Said). ss ++ s ∷ []) value_is (ap (λ (t : List ℕ). said_over t r) (sym e) ∙ says)
