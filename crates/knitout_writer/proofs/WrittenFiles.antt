-- The canonical text of a file whose lines come.
use Rattle.std.proofs.Common.{◌≡◌, ℕ, ◌≤◌, List, [], ◌∷◌, ◌++◌, length, take, drop, ap, sym, subst, ◌∙◌, arith, append_assoc, length-append}
use Rattle.std.specs.List.{AllZip}
use Rattle.std.proofs.lemmas.Grind.{flat_map-append}
use Rattle.std.proofs.lemmas.List.{drop-append-le, take-append-le}
use Rattle.knit_base.specs.declared.profile.Profile.{Profile}
use Rattle.knitout_reader.specs.declared.head.Head.{Head}
use Rattle.knitout_writer.specs.declared.text_writer.TextWriter.{TextWriter}
use Rattle.knitout_writer.specs.Canonical.{IsCanonicalLine, IsCanonicalText, with_line_feeds}
use Rattle.knitout_writer.specs.Written.{WroteAll}
use Rattle.knitout_writer.specs.WrittenFiles.{HasWritten}
use Rattle.knitout_writer.proofs.WrittenLines.{zip-append}

-- more lines behind the head
text-more : (profile : Profile) (head : Head) (lines more : List (List ℕ)) (old new : List ℕ) → head.lines ≤ length lines → IsCanonicalText profile head lines old
    → WroteAll profile head.declared more old new → IsCanonicalText profile head (lines ++ more) new
text-more profile head lines more old new within text wrote =
    let front = with_line_feeds (take head.lines lines) in (
      text.0 ++ wrote.texts,
      subst (λ ls. AllZip (IsCanonicalLine profile head.declared) ls (text.0 ++ wrote.texts)) (sym (drop-append-le head.lines lines more within))
          (zip-append (IsCanonicalLine profile head.declared) (drop head.lines lines) more text.0 wrote.texts text.1 wrote.canonical),
      wrote.appended ∙ ap (λ (l : List ℕ). l ++ with_line_feeds wrote.texts) text.2 ∙ append_assoc front (with_line_feeds text.0) (with_line_feeds wrote.texts)
          ∙ ap (λ (l : List ℕ). front ++ l) (sym (flat_map-append (λ line. line ++ 10 ∷ []) text.0 wrote.texts))
          ∙ ap (λ (ls : List (List ℕ)). with_line_feeds ls ++ with_line_feeds (text.0 ++ wrote.texts)) (sym (take-append-le head.lines lines more within)),
    )

pub written-more : (head : Head) (lines more : List (List ℕ)) (start old new : TextWriter) → HasWritten head lines start old → new.profile ≡ old.profile
    → WroteAll old.profile head.declared more old.out.items new.out.items → HasWritten head (lines ++ more) start new
written-more head lines more start old new so_far same wrote = record {
  same_profile = same ∙ so_far.same_profile;
  within = omega (arith, so_far.within, length-append lines more);
  text = text-more start.profile head lines more old.out.items new.out.items so_far.within so_far.text
      (subst (λ profile. WroteAll profile head.declared more old.out.items new.out.items) so_far.same_profile wrote);
}
