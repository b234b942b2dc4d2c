-- What the readings of two texts come to, one after the other.
use Rattle.std.proofs.Common.{◌≡◌, ◌∙◌, ℕ, ◌+◌, ◌≤◌, ◌<◌, ◌^◌, inl, inr, List, [], ◌∷◌, ◌++◌, length, map, ap, sym, subst, refl, arith}
use Rattle.std.specs.Prelude.{Bool, count_by, flat_map, ◌↔◌}
use Rattle.std.proofs.Math.Path.{ap₂, subst₂}
use Rattle.std.specs.List.{Contains, range_with_len}
use Rattle.std.proofs.lemmas.Grind.{flat_map-append}
use Rattle.std.proofs.lemmas.List.{length-append}
use Rattle.std.proofs.lemmas.List.FromFn.{length-map-range_with_len}
use Rattle.std.proofs.lemmas.List.Elements.{Contains-append_cases, Contains-append_left, Contains-append_right}
use Rattle.std.proofs.lemmas.List.Sums.{sum_by-append, count_by-le-length}
use Rattle.knit_base.specs.declared.instr.Read.{Read}
use Rattle.knit_base.specs.declared.needle.Needle.{Needle}
use Rattle.pass_grouping.specs.declared.operation.Class.TheVariants as class
use Rattle.edit_book.specs.Replies.{line_limit}
use Rattle.tally_tree.specs.Needles.{merged_needles}
use Rattle.tally_tree.specs.Tallies.{AddUp, TallyCounts, CountsFit, IsTallyOf, numbers_added, forms_with, is_of, joined_counts, operated_on}
use Rattle.tally_tree.specs.Merging.{rising_merged, in_merged, first_in_merged, second_in_merged}

-- a count of two lists is that of both
count-append : {X : Type 0} (p : X → Bool) (xs ys : List X) → count_by p xs + count_by p ys ≡ count_by p (xs ++ ys)
count-append p xs ys = sym (sum_by-append _ xs ys)

-- numbers of one list of places, added
added_maps : (f g h : ℕ → ℕ) → ((c : ℕ) → f c + g c ≡ h c) → (cs : List ℕ) → numbers_added (map f cs) (map g cs) ≡ map h cs
added_maps f g h both [] = refl
added_maps f g h both (c ∷ cs) = ap₂ (λ x xs. x ∷ xs) (both c) (added_maps f g h both cs)

-- they add up where each two do
maps_add_up : (f g : ℕ → ℕ) → ((c : ℕ) → f c + g c < 2 ^ 32) → (cs : List ℕ) → AddUp (map f cs) (map g cs)
maps_add_up f g few [] = tt
maps_add_up f g few (c ∷ cs) = (few c, maps_add_up f g few cs)

-- both lists have the same needles
abbrev HaveSame : List Needle → List Needle → Type 0
HaveSame ns ms = (n : Needle) → Contains ns n ↔ Contains ms n

-- so many operations of each class
abbrev ops_in : List Read → List ℕ
ops_in rs = count_by (is_of class.Form) rs ∷ count_by (is_of class.Split) rs ∷ count_by (is_of class.Move) rs ∷ count_by (is_of class.Drop) rs ∷ []

-- those of two lists, added
added_ops : (rs ss : List Read) → numbers_added (ops_in rs) (ops_in ss) ≡ ops_in (rs ++ ss)
added_ops rs ss i = count-append (is_of class.Form) rs ss i ∷ count-append (is_of class.Split) rs ss i ∷ count-append (is_of class.Move) rs ss i ∷ count-append (is_of class.Drop) rs ss i ∷ []

-- merged needles are those of both lists
same_needles : (ns ms ks ls : List Needle) → HaveSame ns ks → HaveSame ms ls → HaveSame (merged_needles ns ms) (ks ++ ls)
same_needles ns ms ks ls a b n = (
  λ h. elim (in_merged ns ms n h) [ inl k ↦ Contains-append_left ks ls n ((a n).0 k) | inr k ↦ Contains-append_right ks ls n ((b n).0 k) ],
  λ h. elim (Contains-append_cases ks ls n h) [ inl k ↦ first_in_merged ns ms n ((a n).1 k) | inr k ↦ second_in_merged ns ms n ((b n).1 k) ],
)

module _ (rs ss : List Read) (v w : TallyCounts) where
  -- the sum of two tallies is that of both lists of readings
  pub is_tally_joined : (carriers : ℕ) → IsTallyOf carriers rs v → IsTallyOf carriers ss w → IsTallyOf carriers (rs ++ ss) (joined_counts v w)
  is_tally_joined carriers a b = record {
    lines = omega (arith, a.lines, b.lines, length-append rs ss);
    with_each = ap₂ numbers_added a.with_each b.with_each ∙ added_maps _ _ _ (λ c. count-append (forms_with c) rs ss) (range_with_len 0 carriers);
    ops = ap₂ numbers_added a.ops b.ops ∙ added_ops rs ss;
    rising = rising_merged v.needles w.needles a.rising b.rising;
    needles = subst (HaveSame (merged_needles v.needles w.needles)) (sym (flat_map-append operated_on rs ss)) (same_needles v.needles w.needles (flat_map operated_on rs) (flat_map operated_on ss) a.needles b.needles);
  }

  -- counts of few readings add up
  few_counted : length rs + length ss ≤ line_limit → (p : Read → Bool) → count_by p rs + count_by p ss < 2 ^ 32
  few_counted few p = omega (arith, count_by-le-length p rs, count_by-le-length p ss)

  -- two tallies of few readings add up
  pub tallies_fit : (carriers : ℕ) → IsTallyOf carriers rs v → IsTallyOf carriers ss w → length rs + length ss ≤ line_limit → CountsFit v w
  tallies_fit carriers a b few =
      let each = few_counted few in
      record {
        carriers = ap length a.with_each ∙ length-map-range_with_len _ 0 carriers ∙ sym (ap length b.with_each ∙ length-map-range_with_len _ 0 carriers);
        lines = omega (arith, a.lines, b.lines, few);
        with_fit = subst₂ AddUp (sym a.with_each) (sym b.with_each) (maps_add_up _ _ (λ c. each (forms_with c)) (range_with_len 0 carriers));
        ops_fit = subst₂ AddUp (sym a.ops) (sym b.ops) (each (is_of class.Form), (each (is_of class.Split), (each (is_of class.Move), (each (is_of class.Drop), tt))));
      }
