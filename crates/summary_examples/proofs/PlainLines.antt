-- Summaries of lines that ask nothing.
use Rattle.std.proofs.Common.{◌<◌, ℕ, List, [], arith}
use Rattle.std.specs.List.{Contains}
use Rattle.face_data.specs.declared.face.Ending.TheVariants.{Through}
use Rattle.face_data.specs.declared.face.Last.{Last}
use Rattle.face_data.specs.Drafts.{no_effect}
use Rattle.face_data.specs.Goodness.{IsGood}
use Rattle.face_data.specs.Lasts.{AreInOrder}
use Rattle.face_data.specs.Summaries.{Summary}
use Rattle.face_data.proofs.Drafts.{no_lines_good}
use Rattle.face_data.proofs.Members.{Contains-none}

-- so many lines that ask nothing, and set these last needles
abbrev pub unasked : ℕ → List Last → Summary
unasked lines lasts = record { lines = lines; made = 0; checks = []; changes = []; lasts = lasts; ending = Through no_effect }

pub unasked_good : (lines : ℕ) (lasts : List Last) → AreInOrder lasts → ((l : Last) → Contains lasts l → l.carrier.0 < 1) → IsGood 1 0 [] (unasked lines lasts)
unasked_good lines lasts order declared =
    let none = (no_lines_good 1 0 []).fair in
    record {
      fair = record {
        made = omega arith;
        asks_fit = none.asks_fit;
        within = λ c there. absurd (Contains-none c there);
        in_turn = none.in_turn;
        nested = none.nested;
        agree = none.agree;
        in_order = none.in_order;
        changes_fit = λ c there. absurd (Contains-none c there);
        owns = none.owns;
        lasts_in_order = order;
        lasts_fit = declared;
        sizes = none.sizes;
        ending = record {
          lies = none.ending.lies;
          apart = none.ending.apart;
          came = none.ending.came;
          went = none.ending.went;
          hook = none.ending.hook;
          nears = λ c there. absurd (Contains-none c there);
        };
      };
      irredundant = tt;
    }
