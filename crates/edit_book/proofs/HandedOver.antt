-- What is taken of the summaries that are handed over for other names of the header.
use Rattle.std.proofs.Common.{◌≡◌, ⊎_elim, ℕ, ◌+◌, ◌≤◌, Bool, true, false, cond, not, ◌||◌, ◌==◌, nat_eq, List, [], ◌∷◌, ◌++◌, length, find, position, replicate, set, Option, Some, None, IfSome, option_map, sym, subst, ap, ◌∙◌, refl, one-add, arith}
use Rattle.std.specs.List.{Contains, list_any, position_or_len}
use Rattle.std.specs.Option.{option_eq}
use Rattle.std.proofs.lemmas.Bool.{and_from, and_left, and_parts, and_right, eqb-false, eqb-true, eq-eqb, ne_eqb, not-false, not-true}
use Rattle.std.proofs.lemmas.List.Elements.{Contains-append_left, Contains-push}
use Rattle.std.proofs.lemmas.List.Folds.{list_any-append}
use Rattle.knit_base.specs.declared.setting.Setting.{Setting}
use Rattle.block_summary.specs.declared.prepared.Prepared.{Prepared}
use Rattle.block_summary.specs.Prepared.{IsPreparedFor}
use Rattle.edit_journal.specs.declared.edit.Entry.{Entry}
use Rattle.edit_journal.specs.declared.opening.Opening.{Opening}
use Rattle.edit_journal.specs.Documents.{Block, block_of, stamp_at, text_at}
use Rattle.face_data.proofs.Members.{Contains-cons_cases, Contains-none}
use Rattle.edit_book.specs.declared.reply.Again.{Again}
use Rattle.edit_book.specs.Books.{AreDistinct, Each, HasText, IsLeafOf, ids_of}
use Rattle.edit_book.specs.Headers.{ArePreparedAgain, IsPreparedAgain}
use Rattle.edit_book.specs.HeaderTrees.{AreLeavesTaken, FitBlocks, FitsBlock, IsLeafTaken, lines_left}
use Rattle.edit_book.specs.Orders.{is_id}
use Rattle.edit_book.specs.Work.{is_for, lines_anew}
use Rattle.edit_book.proofs.Puts.{has_place, place_is}
use Rattle.summary_tree.specs.Leaves.{Leaf}

-- where a summary is for another block, or for another text of the block
other_block : (b : Block) (a : Again) → (b.id == a.block) ≡ false → is_for b a ≡ false
other_block b a other = and_left (a.block == b.id) (a.stamp == b.stamp) (ne_eqb a.block b.id (λ same. eqb-false b.id a.block other (sym same)))

other_stamp : (b : Block) (a : Again) → (b.stamp ≡ a.stamp → ⊥) → is_for b a ≡ false
other_stamp b a other = and_right (a.block == b.id) (a.stamp == b.stamp) (ne_eqb a.stamp b.stamp (λ same. other (sym same)))

other_blocks : (a : Again) (bs : List Block) → find (λ y. y == a.block) (ids_of bs) ≡ None → Each (λ b. is_for b a ≡ false) bs
other_blocks a [] none = tt
other_blocks a (b ∷ bs) none = go (b.id == a.block) refl none (other_blocks a bs)
  where
    go : (t : Bool) → (b.id == a.block) ≡ t → cond t (Some b.id) (find (λ y. y == a.block) (ids_of bs)) ≡ None → (find (λ y. y == a.block) (ids_of bs) ≡ None → Each (λ x. is_for x a ≡ false) bs) → Each (λ x. is_for x a ≡ false) (b ∷ bs)
    go true is none rest = absurd (cc)
    go false is none rest = (other_block b a is, rest none)

-- a summary of another text than its block has is for none of the blocks
pub stale_summary_unused : (a : Again) (bs : List Block) → AreDistinct (ids_of bs) → (stamp_at bs a.block ≡ Some a.stamp → ⊥) → Each (λ b. is_for b a ≡ false) bs
stale_summary_unused a [] apart differs = tt
stale_summary_unused a (b ∷ bs) apart differs = go (b.id == a.block) refl differs (stale_summary_unused a bs apart.1)
  where
    go : (t : Bool) → (b.id == a.block) ≡ t → (option_map (λ x. x.stamp) (cond t (Some b) (block_of bs a.block)) ≡ Some a.stamp → ⊥) → ((stamp_at bs a.block ≡ Some a.stamp → ⊥) → Each (λ x. is_for x a ≡ false) bs)
        → Each (λ x. is_for x a ≡ false) (b ∷ bs)
    go true is differs rest =
        (other_stamp b a (λ same. differs (ap Some same)), other_blocks a bs (subst (λ (k : ℕ). find (λ y. y == k) (ids_of bs) ≡ None) (eqb-true b.id a.block is) apart.0))
    go false is differs rest = (other_block b a is, rest differs)

-- what was taken for a block stays taken with one more summary that isn't for it
taken_more : (again : List Again) (a : Again) (t : Option Leaf) (b : Block) → is_for b a ≡ false → IsLeafTaken again t b → IsLeafTaken (again ++ a ∷ []) t b
taken_more again a None b other none =
    list_any-append (is_for b) again (a ∷ []) ∙ ap (λ x. x || list_any (is_for b) (a ∷ [])) none ∙ ap (λ x. x || false) other
taken_more again a (Some leaf) b other h = record { one = h.one; among = Contains-append_left again (a ∷ []) h.one h.among; for_block = h.for_block; leaf_is = h.leaf_is }

pub taken_past : (again : List Again) (a : Again) (taken : List (Option Leaf)) (bs : List Block) → Each (λ b. is_for b a ≡ false) bs → AreLeavesTaken again taken bs → AreLeavesTaken (again ++ a ∷ []) taken bs
taken_past again a [] [] others h = tt
taken_past again a [] (b ∷ bs) others h = absurd h
taken_past again a (t ∷ taken) [] others h = absurd h
taken_past again a (t ∷ taken) (b ∷ bs) others h = (taken_more again a t b others.0 h.0, taken_past again a taken bs others.1 h.1)

-- a summary of the text that its block has is taken for the block
taken_here : (again : List Again) (a : Again) (taken : List (Option Leaf)) (bs : List Block) → AreDistinct (ids_of bs) → stamp_at bs a.block ≡ Some a.stamp → AreLeavesTaken again taken bs
    → AreLeavesTaken (again ++ a ∷ []) (set taken (position_or_len (is_id a.block) (ids_of bs)) (Some (a.prepared.face, a.prepared.loops))) bs
taken_here again a [] [] apart is h = tt
taken_here again a [] (b ∷ bs) apart is h = absurd h
taken_here again a (t ∷ taken) [] apart is h = absurd h
taken_here again a (t ∷ taken) (b ∷ bs) apart is h = go (b.id == a.block) refl is (λ later. taken_here again a taken bs apart.1 later h.1)
  where
    go : (u : Bool) → (b.id == a.block) ≡ u → option_map (λ x. x.stamp) (cond u (Some b) (block_of bs a.block)) ≡ Some a.stamp → (stamp_at bs a.block ≡ Some a.stamp → AreLeavesTaken (again ++ a ∷ []) (set taken (position_or_len (is_id a.block) (ids_of bs)) (Some (a.prepared.face, a.prepared.loops))) bs)
        → AreLeavesTaken (again ++ a ∷ []) (set (t ∷ taken) (cond (not u) (1 + position_or_len (is_id a.block) (ids_of bs)) 0) (Some (a.prepared.face, a.prepared.loops))) (b ∷ bs)
    go true same is rest =
        let id_is : a.block ≡ b.id = sym (eqb-true b.id a.block same) in
        let stamp_is : a.stamp ≡ b.stamp = cc in (
          record {
            one = a;
            among = Contains-push again a;
            for_block = and_from (a.block == b.id) (a.stamp == b.stamp) (eq-eqb a.block b.id id_is) (eq-eqb a.stamp b.stamp stamp_is);
            leaf_is = refl;
          },
          taken_past again a taken bs (other_blocks a bs (subst (λ (k : ℕ). find (λ y. y == k) (ids_of bs) ≡ None) (sym id_is) apart.0)) h.1,
        )
    go false same is rest = simp one-add (taken_more again a t b (other_block b a same) h.0, rest is)

-- whether a block has the stamp of a summary, as the code asks
pub same_stamp : (now : Option ℕ) (stamp : ℕ) → false ≡ not (option_eq nat_eq now (Some stamp)) → now ≡ Some stamp
same_stamp None stamp h = absurd (cc)
same_stamp (Some n) stamp h = ap Some (eqb-true n stamp (not-false (n == stamp) (sym h)))

pub no_stamp : (now : Option ℕ) (stamp : ℕ) → true ≡ not (option_eq nat_eq now (Some stamp)) → now ≡ Some stamp → ⊥
no_stamp None stamp h same = absurd (cc)
no_stamp (Some n) stamp h same = let e : n ≡ stamp = cc in eqb-false n stamp (not-true (n == stamp) (sym h)) e

-- a block that has a stamp has a place
pub stamp_placed : (bs : List Block) (id stamp : ℕ) (ids : List ℕ) → ids ≡ ids_of bs → stamp_at bs id ≡ Some stamp → position (is_id id) ids ≡ None → ⊥
stamp_placed bs id stamp ids ids_are is = go (block_of bs id) refl is
  where
    go : (o : Option Block) → block_of bs id ≡ o → option_map (λ x. x.stamp) o ≡ Some stamp → position (is_id id) ids ≡ None → ⊥
    go None there is = absurd (cc)
    go (Some b) there is = has_place bs id b ids there ids_are

-- the place of a summary's block, by its id
pub taken_at : (again : List Again) (a : Again) (taken : List (Option Leaf)) (bs : List Block) (ids : List ℕ) (at : ℕ) → ids ≡ ids_of bs → AreDistinct (ids_of bs) → stamp_at bs a.block ≡ Some a.stamp
    → position (is_id a.block) ids ≡ Some at → AreLeavesTaken again taken bs → AreLeavesTaken (again ++ a ∷ []) (set taken at (Some (a.prepared.face, a.prepared.loops))) bs
taken_at again a taken bs ids at ids_are apart is place h =
    subst (λ (n : ℕ). AreLeavesTaken (again ++ a ∷ []) (set taken n (Some (a.prepared.face, a.prepared.loops))) bs)
    (sym ((place_is ids a.block at place).0 ∙ ap (position_or_len (is_id a.block)) ids_are)) (taken_here again a taken bs apart is h)

-- nothing is taken of no summary
none_taken : (bs : List Block) → AreLeavesTaken [] (replicate (length bs) None) bs
none_taken [] = tt
none_taken (b ∷ bs) = (refl, none_taken bs)

pub taken_first : (taken : List (Option Leaf)) (many : ℕ) (bs : List Block) → taken ≡ replicate many None → many ≡ length bs → AreLeavesTaken [] taken bs
taken_first taken many bs taken_are many_is =
    subst (λ (l : List (Option Leaf)). AreLeavesTaken [] l bs) (sym (taken_are ∙ ap (λ (n : ℕ). replicate n None) many_is)) (none_taken bs)

-- what holds of each summary holds of one of them
again_at : (o : Opening) (es : List Entry) (names : List (List ℕ)) (again : List Again) (a : Again) → ArePreparedAgain o es names again → Contains again a → IsPreparedAgain o es names a
again_at o es names [] a all there = absurd (Contains-none a there)
again_at o es names (x ∷ again) a all there =
    ⊎_elim (λ (same : x ≡ a). subst (IsPreparedAgain o es names) same all.0) (λ (later : Contains again a). again_at o es names again a all.1 later) (Contains-cons_cases x again a there)

-- what was prepared is a leaf of the text's lines
pub prepared_leaf : (setting : Setting) (prepared : Prepared) (lines : List (List ℕ)) → prepared.text ≡ lines → IsPreparedFor setting.profile setting.declared prepared → IsLeafOf setting (prepared.face, prepared.loops) lines
prepared_leaf setting prepared lines is h = subst (λ (l : List (List ℕ)). IsLeafOf setting (prepared.face, prepared.loops) l) is h

module _ (o : Opening) (es : List Entry) (setting : Setting) (again : List Again) (same : setting.profile ≡ o.setting.profile) (all : ArePreparedAgain o es setting.declared again) where
  -- a summary that is for a block is of the block's own text
  own_leaf : (t : Option Leaf) (b : Block) → HasText o es b → IsLeafTaken again t b → FitsBlock setting t b
  own_leaf None b text h = tt
  own_leaf (Some leaf) b text h =
      let a : Again = h.one in
      let parts = and_parts (a.block == b.id) (a.stamp == b.stamp) h.for_block in
      let given : text_at o es a.block a.stamp ≡ Some b.lines =
      (λ i. text_at o es (eqb-true a.block b.id parts.0 i) (eqb-true a.stamp b.stamp parts.1 i)) ∙ text in
      let here : (a.prepared.text ≡ b.lines) × IsPreparedFor o.setting.profile setting.declared a.prepared =
      subst (λ (x : Option (List (List ℕ))). IfSome x (λ lines. (a.prepared.text ≡ lines) × IsPreparedFor o.setting.profile setting.declared a.prepared)) given (again_at o es setting.declared again a all h.among) in
      subst (λ (l : Leaf). IsLeafOf setting l b.lines) (sym h.leaf_is)
      (prepared_leaf setting a.prepared b.lines here.0 (subst (λ p. IsPreparedFor p setting.declared a.prepared) (sym same) here.1))

  pub own_leaves : (taken : List (Option Leaf)) (bs : List Block) → Each (HasText o es) bs → AreLeavesTaken again taken bs → FitBlocks setting taken bs
  own_leaves [] [] texts h = tt
  own_leaves [] (b ∷ bs) texts h = absurd h
  own_leaves (t ∷ taken) [] texts h = absurd h
  own_leaves (t ∷ taken) (b ∷ bs) texts h = (own_leaf t b texts.0 h.0, own_leaves taken bs texts.1 h.1)

-- the blocks for which nothing is taken are those without a summary
pub left_anew : (again : List Again) (taken : List (Option Leaf)) (bs : List Block) → AreLeavesTaken again taken bs → lines_left taken bs ≤ lines_anew again bs
left_anew again [] [] h = omega arith
left_anew again [] (b ∷ bs) h = absurd h
left_anew again (t ∷ taken) [] h = absurd h
left_anew again (None ∷ taken) (b ∷ bs) h = omega (arith, left_anew again taken bs h.1, ap (λ (x : Bool). cond x 0 (length b.lines)) h.0)
left_anew again (Some leaf ∷ taken) (b ∷ bs) h = omega (arith, left_anew again taken bs h.1)
