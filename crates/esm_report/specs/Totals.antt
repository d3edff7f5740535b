-- The totals of a history, shard by shard, and the lines that report them.
use Rattle.std.specs.Prelude.{ℕ, ◌≡◌, List, ◌++◌, codes, length, get_or, filter, take_while, is_some, Option, Some, None, option_map}
use Rattle.std.specs.List.{flat_map}
use Rattle.std.specs.Option.{option_copied, option_or}
use Rattle.std.specs.Ordering.{nat_cmp}
use Rattle.std.specs.Map.{count_at}
use Rattle.std.specs.BTreeMap as map
use Rattle.std.specs.BTreeSet as set
use Rattle.esm_model.specs.declared.entry.Fate.{Fate}
use Rattle.esm_model.specs.declared.entry.Fate.TheVariants.{Succeeded, Filtered, Expired, Exhausted}
use Rattle.esm_model.specs.declared.entry.Entry.{Entry}
use Rattle.esm_model.specs.Entries.{holds, came_count, shards_that_came}
use Rattle.esm_model.specs.Fates.{below, given, is_fate}
use Rattle.esm_model.specs.declared.setup.FoundFate.{FoundFate}
use Rattle.esm_model.specs.Numbers.{decimal}
use Rattle.esm_model.specs.EventText.{shard_id}
use Rattle.esm_journal_state.specs.SaidLists.{SaidLists, fate_told}
use Rattle.esm_report.specs.Report.{line, rising}
use Rattle.esm_report.specs.declared.shard.ShardFates.{ShardFates}
use Rattle.esm_report.specs.declared.totals.Totals.{Totals}

-- the fate of the place in a list of fates by place, if it has one
abbrev pub fate_at : Option (List (Option Fate)) → ℕ → Option Fate
fate_at None i = None
fate_at (Some fates) i = get_or fates i None

-- the fate of the shard's place by the journal, if it has one
abbrev pub fate_found : SaidLists → ℕ → ℕ → Option Fate
fate_found said n i = option_map (λ (f : FoundFate). f.fate) (fate_told said n i)

-- the fate of the shard's place by the journal, or else by the list
abbrev pub fate_of : SaidLists → Option (List (Option Fate)) → ℕ → ℕ → Option Fate
fate_of said fates n i = option_or (fate_found said n i) (fate_at fates i)

-- the fates of a shard by place
abbrev pub place_fate : ShardFates → ℕ → Option Fate
place_fate f = fate_of f.found.now (option_copied f.given) f.shard

-- the totals of a history: the shards of which records arrived, how many of each, and the fates given to their places
pub record IsTotal (t : Totals) (h : List Entry) : Type 0 where
  pub shards : t.shards.keys ≡ rising (shards_that_came h)
  pub seen : (n : ℕ) → set.contains nat_cmp t.shards n ≡ holds (shards_that_came h) n
  pub records : (n : ℕ) → count_at (map.get nat_cmp t.records) n ≡ came_count h n
  pub fates : (n i : ℕ) → fate_at (map.get nat_cmp t.fates n) i ≡ given h n i

-- a word, and how many of the first `count` places have this fate
abbrev pub count_part : List ℕ → Fate → ℕ → (ℕ → Option Fate) → List ℕ
count_part word f count fates = codes " " ++ word ++ codes " " ++ decimal (length (filter (λ i. is_fate f (fates i)) (below count)))

-- how many of them have each of the four fates
abbrev pub counts_part : ℕ → (ℕ → Option Fate) → List ℕ
counts_part count fates =
    count_part (codes "succeeded") Succeeded count fates
    ++ count_part (codes "filtered") Filtered count fates
    ++ count_part (codes "expired") Expired count fates
    ++ count_part (codes "exhausted") Exhausted count fates

-- the length of the longest prefix of the first `count` places in which each has a fate
unfoldable pub front_count : ℕ → (ℕ → Option Fate) → ℕ
front_count count fates = length (take_while (λ i. is_some (fates i)) (below count))

-- a shard, the number of its records, and its checkpoint
abbrev pub numbers_part : ℕ → ℕ → ℕ → List ℕ
numbers_part n count front =
    codes "shard " ++ shard_id n ++ codes " records " ++ decimal count ++ codes " checkpoint " ++ decimal front

-- the text of a shard with `count` records, by the fates of its places
unfoldable pub count_text : ℕ → ℕ → (ℕ → Option Fate) → List ℕ
count_text n count fates = numbers_part n count (front_count count fates) ++ counts_part count fates

-- the line of a shard, by what the journal said and by the totals
unfoldable pub total_line : SaidLists → Totals → ℕ → List ℕ
total_line said t n = line (count_text n (count_at (map.get nat_cmp t.records) n) (fate_of said (map.get nat_cmp t.fates n) n))

abbrev pub total_lines : SaidLists → Totals → List ℕ
total_lines said t = flat_map (total_line said t) t.shards.keys
