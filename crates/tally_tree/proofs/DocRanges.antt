-- What a range of a document's blocks comes to, from the parts of its tree.
use Rattle.std.proofs.Common.{◌≡◌, ℕ, ◌+◌, ◌*◌, ◌≤◌, List, length, Option, ap, sym, subst, arith}
use Rattle.std.specs.Prelude.{slice_range}
use Rattle.std.proofs.Math.Nat.{mul-le-mul_right}
use Rattle.knit_base.specs.declared.instr.Read.{Read}
use Rattle.edit_book.specs.Replies.{line_limit}
use Rattle.tree_shape.specs.declared.node.Child.{Child}
use Rattle.tree_shape.specs.Fewest.{highest}
use Rattle.tree_shape.specs.Values.{part}
use Rattle.tree_shape.specs.View.{ShapeView, leaf_count_of}
use Rattle.value_tree.specs.Parts.{StandFor}
use Rattle.tally_tree.specs.declared.store.TallyStore.{TallyStore}
use Rattle.tally_tree.specs.Docs.{DocView, IsRange, document, range_limit, setting_now}
use Rattle.tally_tree.specs.Leaves.{AreTallies, TallyStandsFor, all_of, tally_at}
use Rattle.tally_tree.specs.Tallies.{TallyCounts, IsTallyOf, cost}
use Rattle.tally_tree.specs.Trees.{IsTreeOf, leaf_tallies}
use Rattle.tally_tree.proofs.BlockRanges.{range_read, some_tally}
use Rattle.tally_tree.proofs.DocTrees.{leaf_count}

-- the tallies that a store has
abbrev pub value_in : TallyStore → Child → Option TallyCounts
value_in store = part (tally_at store.leaves.items) (tally_at store.nodes.items)

-- the parts stand for leaves of these texts, few enough, whose tallies are those of the range
pub record HasParts (doc : DocView) (from to : ℕ) (value_of : Child → Option TallyCounts) (parts : List Child) (carriers : ℕ) : Type 0 where
  pub leaves : List TallyCounts
  pub texts : List (List Read)
  pub stand : StandFor TallyStandsFor value_of parts leaves
  pub tallies : AreTallies carriers texts leaves
  pub few_lines : length (all_of texts) ≤ line_limit
  pub is_range : (v : TallyCounts) → IsTallyOf carriers (all_of texts) v → IsRange doc from to v
  pub few_parts : length parts ≤ 2 * highest (length (document doc).blocks) + 1

module _ (inside doc : DocView) (shape : ShapeView) (store : TallyStore) (tree : IsTreeOf inside shape store.leaves.items store.nodes.items) (seen : inside ≡ doc) where
  tree_seen : IsTreeOf doc shape store.leaves.items store.nodes.items
  tree_seen = subst (λ (d : DocView). IsTreeOf d shape store.leaves.items store.nodes.items) seen tree

  -- there are as many leaves as blocks
  pub tree_count : leaf_count_of shape.tree ≡ length (document doc).blocks
  tree_count = leaf_count doc shape store.leaves.items store.nodes.items tree_seen

  pub has_parts : (from to : ℕ) (parts : List Child) (carriers : ℕ) → carriers ≡ length (setting_now doc).declared → StandFor TallyStandsFor (value_in store) parts (slice_range (leaf_tallies shape store.leaves.items) from to) → length parts ≤ 2 * highest (leaf_count_of shape.tree) + 1 → HasParts doc from to (value_in store) parts carriers
  has_parts from to parts carriers names stand few =
      let vs = leaf_tallies shape store.leaves.items in
      let t = tree_seen in
      let r = range_read (setting_now doc).profile (setting_now doc).declared vs (document doc).blocks from to t.tallies t.kept.sound_leaves in
      record {
        leaves = slice_range vs from to;
        texts = r.texts;
        stand = stand;
        tallies = subst (λ n. AreTallies n r.texts (slice_range vs from to)) (sym names) r.tallies;
        few_lines = r.few;
        is_range = λ v is. (all_of r.texts, r.read, subst (λ n. IsTallyOf n (all_of r.texts) v) names is);
        few_parts = omega (arith, few, ap highest tree_count);
      }

  -- the range has a tally, whether or not there is memory to count it
  pub some_range : (from to start : ℕ) → (v : TallyCounts) × IsRange doc from to v × (start ≤ start + range_limit doc v)
  some_range from to start =
      let vs = leaf_tallies shape store.leaves.items in
      let t = tree_seen in
      let r = range_read (setting_now doc).profile (setting_now doc).declared vs (document doc).blocks from to t.tallies t.kept.sound_leaves in
      let v = some_tally (length (setting_now doc).declared) r.texts (slice_range vs from to) r.tallies in
      (v.0, (all_of r.texts, r.read, v.1), omega arith)

-- the same parts, seen from elsewhere
pub parts_seen : (doc : DocView) (from to carriers : ℕ) (store seen : TallyStore) (parts others : List Child) → HasParts doc from to (value_in store) parts carriers → seen ≡ store → others ≡ parts → HasParts doc from to (value_in seen) others carriers
parts_seen doc from to carriers store seen parts others h is are =
    subst (λ (s : TallyStore). HasParts doc from to (value_in s) others carriers) (sym is) (subst (λ (ps : List Child). HasParts doc from to (value_in store) ps carriers) (sym are) h)

module _ (doc : DocView) (from to : ℕ) (value_of : Child → Option TallyCounts) (parts : List Child) (carriers : ℕ) (h : HasParts doc from to value_of parts carriers) where
  -- what is the tally of whatever lines the parts stand for is that of the range
  pub parts_told : (v : TallyCounts) → ((leaves : List TallyCounts) (texts : List (List Read)) → StandFor TallyStandsFor value_of parts leaves → AreTallies carriers texts leaves → IsTallyOf carriers (all_of texts) v) → IsRange doc from to v
  parts_told v told = h.is_range v (told h.leaves h.texts h.stand h.tallies)

  -- two parts a level take no more steps than the limit
  pub parts_cost : (start now : ℕ) → ((leaves : List TallyCounts) (texts : List (List Read)) (v : TallyCounts) → StandFor TallyStandsFor value_of parts leaves → AreTallies carriers texts leaves → IsTallyOf carriers (all_of texts) v → now ≤ start + length parts * (2 * cost v)) → (v : TallyCounts) × IsRange doc from to v × (now ≤ start + range_limit doc v)
  parts_cost start now told =
      let v = some_tally carriers h.texts h.leaves h.tallies in
      let each = told h.leaves h.texts v.0 h.stand h.tallies v.1 in
      let most : length parts * (2 * cost v.0) ≤ (2 * highest (length (document doc).blocks) + 1) * (2 * cost v.0) = mul-le-mul_right (2 * cost v.0) h.few_parts in
      (v.0, h.is_range v.0 v.1, omega (arith, each, most))
