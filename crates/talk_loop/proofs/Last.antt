-- The last line of a conversation, and what ends it.
use Rattle.std.proofs.Common.{◌≡◌, ◌≢◌, ℕ, suc, ◌<◌, List, [], ◌∷◌, ◌++◌, length, take, ap, ◌∙◌, append_assoc, append-nil, subst, sym, refl, arith}
use Rattle.std.specs.Prelude.{OnOk, Result, Ok, Err}
use Rattle.std.proofs.lemmas.List.Elements.{All-take}
use Rattle.knit_base.specs.Lines.{HasNoLineEnd}
use Rattle.knit_ports.specs.Ears.{kept_front, kept_limit}
use Rattle.talk_loop.specs.InStep.{Asking, AreDeskAnswers, due, text_of}
use Rattle.talk_loop.specs.Conversed.{IsLineAnswered, IsLast}
use Rattle.talk_loop.proofs.Steps.{answers-more, text-more}

-- what follows from what holds where all went well
pub on-ok : {T E P Q : Type 0} (r : Result T E) → (P → Q) → OnOk r P → OnOk r Q
on-ok (Ok x) f p = f p
on-ok (Err e) f p = tt

-- what is kept of a line without a feed has none
pub kept-one : (line kept : List ℕ) → kept ≡ kept_front line → HasNoLineEnd line → HasNoLineEnd kept
kept-one line kept is one = subst HasNoLineEnd (sym is) (All-take (λ (byte : ℕ). byte ≢ 10) kept_limit line one)

-- a line of which nothing is kept is empty
pub none-kept : (line kept : List ℕ) → kept ≡ kept_front line → length kept ≡ 0 → line ≡ []
none-kept [] kept is none = refl
none-kept (byte ∷ bytes) kept is none = absurd (let some : length kept ≡ suc (length (take 8193 bytes)) = ap length is in omega (arith, some, none))

module _ {Order Answer State : Type 0} (asking : Asking Order Answer State) (ends : List (List ℕ) → List Answer → List ℕ → Type 0) where
  -- there is no last line
  pub no-last : (lines : List (List ℕ)) (as_ : List Answer) (text final : List ℕ) → AreDeskAnswers asking asking.start (asking.orders lines) as_ → ends lines as_ final → text ≡ final → IsLast asking ends lines as_ [] text []
  no-last lines as_ text final given last is =
      let same : lines ++ [] ≡ lines = append-nil lines in
      let kept : as_ ++ [] ≡ as_ = append-nil as_ in
      record {
        final = final;
        answers = subst (λ (l : List (List ℕ)). AreDeskAnswers asking asking.start (asking.orders l) (as_ ++ [])) (sym same) (subst (AreDeskAnswers asking asking.start (asking.orders lines)) (sym kept) given);
        all = ap (λ (l : List ℕ). due asking lines as_ ++ l) is ∙ ap (λ (l : List Answer). due asking lines l ++ final) (sym kept) ∙ ap (λ (l : List (List ℕ)). due asking l (as_ ++ []) ++ final) (sym same);
        ends_so = subst (λ (l : List (List ℕ)). ends l (as_ ++ []) final) (sym same) (subst (λ (l : List Answer). ends lines l final) (sym kept) last);
      }

  -- there is one
  pub one-last : (lines : List (List ℕ)) (as_ more : List Answer) (byte : ℕ) (bytes said text final : List ℕ) → AreDeskAnswers asking asking.start (asking.orders lines) as_ → IsLineAnswered asking lines as_ (byte ∷ bytes) [] said more
      → ends (lines ++ (byte ∷ bytes) ∷ []) (as_ ++ more) final → text ≡ said ++ final → IsLast asking ends lines as_ (byte ∷ bytes) text more
  one-last lines as_ more byte bytes said text final given a last is = record {
    final = final;
    answers = subst (λ (l : List Order). AreDeskAnswers asking asking.start l (as_ ++ more)) (sym a.orders) (answers-more asking asking.start (asking.orders lines) as_ a.asked more given a.given);
    all = ap (λ (l : List ℕ). due asking lines as_ ++ l) is ∙ sym (append_assoc (due asking lines as_) said final)
        ∙ ap (λ (l : List ℕ). l ++ final) (ap (λ (l : List ℕ). due asking lines as_ ++ l) a.text ∙ sym (text-more asking asking.start (asking.orders lines) as_ a.asked more given) ∙ ap (λ (l : List Order). text_of asking asking.start l (as_ ++ more)) (sym a.orders));
    ends_so = last;
  }

  -- there is one, of which something is kept
  pub last-by : (lines : List (List ℕ)) (as_ more : List Answer) (line kept said text final : List ℕ) → 0 < length kept → kept ≡ kept_front line → AreDeskAnswers asking asking.start (asking.orders lines) as_ → IsLineAnswered asking lines as_ line [] said more
      → ends (lines ++ line ∷ []) (as_ ++ more) final → text ≡ said ++ final → IsLast asking ends lines as_ line text more
  last-by lines as_ more [] kept said text final some front given a last is = absurd (let none : length kept ≡ 0 = ap length front in omega (arith, some, none))
  last-by lines as_ more (byte ∷ bytes) kept said text final some front given a last is = one-last lines as_ more byte bytes said text final given a last is
