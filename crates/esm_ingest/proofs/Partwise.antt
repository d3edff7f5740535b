-- The parts of a list, one after the other.
use Rattle.std.proofs.Common.{◌≡◌, ℕ, ◌+◌, ◌<◌, List, [], ◌∷◌, ◌++◌, map, length, refl, sym, ap, ◌∙◌, subst, inl, inr, append_assoc}
use Rattle.std.specs.Prelude.{◌==◌, All}
use Rattle.std.specs.List.{AllByRecursion}
use Rattle.std.proofs.lemmas.Bool.{cases_Bool, eqb-true}
use Rattle.std.proofs.lemmas.List.Elements.{All-from_recursion}
use Rattle.esm_model.specs.Records.{Record}
use Rattle.esm_model.specs.declared.entry.Entry.{Entry}
use Rattle.esm_model.specs.Setting.{Setting, Stream}
use Rattle.esm_model.specs.Entries.{came_count}
use Rattle.esm_ingest.specs.declared.parts.ShardRecords.{ShardRecords}
use Rattle.esm_ingest.specs.Coming.{with_records, shards_of, of_shard, FitPlaces}
use Rattle.esm_ingest.specs.Parts.{Part, part, part_in, next_part, parts_of, refused_from, CanCome, grown_by}
use Rattle.esm_ingest.specs.Inside.{AllFit, next_of_stream}
use Rattle.esm_ingest.proofs.Places.{Every, IsPartOf, parts_are}
use Rattle.esm_ingest.proofs.Streams.{alone, records_alone, grown_parts}

parts_alone : (s : Setting) (h : List Entry) (rs : List Record) (ns : List ℕ) → map (next_of_stream s h) (map (alone rs) ns) ≡ map (part_in s h rs) ns
parts_alone s h rs [] = refl
parts_alone s h rs (n ∷ ns) = ap (λ (ps : List Part). part_in s h rs n ∷ ps) (parts_alone s h rs ns)

pub parts_from_streams : (s : Setting) (h : List Entry) (rs : List Record) → map (next_of_stream s h) (with_records [] rs) ≡ parts_of s h rs
parts_from_streams s h rs = ap (map (next_of_stream s h)) (records_alone rs) ∙ parts_alone s h rs (shards_of rs)

alone_fit : (h : List Entry) (rs : List Record) (ns : List ℕ) → FitPlaces h rs → AllFit h (map (alone rs) ns)
alone_fit h rs [] fit = tt
alone_fit h rs (n ∷ ns) fit = (fit n, alone_fit h rs ns fit)

pub streams_fit : (h : List Entry) (rs : List Record) → FitPlaces h rs → AllFit h (with_records [] rs)
streams_fit h rs fit = subst (AllFit h) (sym (records_alone rs)) (alone_fit h rs (shards_of rs) fit)

-- each may come

of_one : (rs : List Record) (n : ℕ) → AllByRecursion (λ (r : Record). r.shard ≡ n) (of_shard n rs)
of_one [] n = tt
of_one (r ∷ rs) n = elim (cases_Bool (r.shard == n)) [
  | inl same ↦ rw same (eqb-true r.shard n same, of_one rs n)
  | inr off ↦ rw off (of_one rs n)
]

all_can : (s : Setting) (h : List Entry) (rs : List Record) (ps : List Part) → FitPlaces h rs → Every (IsPartOf s h rs) ps → AllByRecursion (CanCome h) ps
all_can s h rs [] fit are = tt
all_can s h rs (p ∷ ps) fit are = (
  record {
    some = are.0.some;
    shard = subst (All (λ (r : Record). r.shard ≡ p.shard)) (sym are.0.records) (All-from_recursion (λ (r : Record). r.shard ≡ p.shard) (of_shard p.shard rs) (of_one rs p.shard));
    first = are.0.first;
    few = subst (λ (xs : List Record). came_count h p.shard + length xs < 4294967296) (sym are.0.records) (fit p.shard);
  },
  all_can s h rs ps fit are.1,
)

pub parts_can : (s : Setting) (h : List Entry) (rs : List Record) (ps : List Part) → FitPlaces h rs → ps ≡ parts_of s h rs → All (CanCome h) ps
parts_can s h rs ps fit is = subst (All (CanCome h)) (sym is) (All-from_recursion (CanCome h) (parts_of s h rs) (all_can s h rs (parts_of s h rs) fit (parts_are s h rs)))

pub parts_grow : (s : Setting) (h : List Entry) (rs : List Record) (ps : List Part) (ts : List Stream) → ps ≡ parts_of s h rs → grown_by ts ps ≡ with_records ts rs
parts_grow s h rs ps ts is = ap (grown_by ts) is ∙ grown_parts s h rs ts

-- one more part

map_last : (xs : List ShardRecords) (x : ShardRecords) → map part (xs ++ x ∷ []) ≡ map part xs ++ part x ∷ []
map_last [] x = refl
map_last (y ∷ xs) x = ap (λ (ps : List Part). part y ∷ ps) (map_last xs x)

pub part_more : (s : Setting) (h : List Entry) (parts now : List ShardRecords) (x : ShardRecords) (t : Stream) (left rest : List Stream) (all : List Part) → now ≡ parts ++ x ∷ [] → part x ≡ next_of_stream s h t → left ≡ t ∷ rest
    → map part parts ++ map (next_of_stream s h) left ≡ all → map part now ++ map (next_of_stream s h) rest ≡ all
part_more s h parts now x t left rest all more is next so_far =
    ap (λ (xs : List ShardRecords). map part xs ++ map (next_of_stream s h) rest) more
    ∙ (ap (λ (ps : List Part). ps ++ map (next_of_stream s h) rest) (map_last parts x)
    ∙ (append_assoc (map part parts) (part x ∷ []) (map (next_of_stream s h) rest)
    ∙ (ap (λ (p : Part). map part parts ++ p ∷ map (next_of_stream s h) rest) is
    ∙ (ap (λ (ts : List Stream). map part parts ++ map (next_of_stream s h) ts) (sym next) ∙ so_far))))

-- a part as it is made

abbrev pub made_with : ℕ → ℕ → List Record → List ℕ → Part
made_with n first rs refused = record { shard = n; first = first; records = rs; refused = refused }

pub made_part : (s : Setting) (h : List Entry) (n first : ℕ) (rs slice : List Record) (refused : List ℕ) → first ≡ came_count h n → slice ≡ rs → refused ≡ refused_from s n first slice → made_with n first rs refused ≡ next_part s h n rs
made_part s h n first rs slice refused at same is =
    ap (made_with n first rs) (is ∙ ap (refused_from s n first) same) ∙ ap (λ (i : ℕ). made_with n i rs (refused_from s n i rs)) at
