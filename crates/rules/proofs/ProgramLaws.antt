-- Laws of the program's judgement (specs/Program.antt): a file that is missing or too long is 1,
-- one byte more than is allowed shows that a file is too long, and 6 applies to a request that asks
-- for nothing.
use mathlib.Core.Path.{◌≡◌, refl, sym, ap, ◌∙◌}
use mathlib.Core.Bool.{Bool, true, false, ◌&&◌, false≢true}
use mathlib.Core.List.{List, [], ◌∷◌}
use mathlib.Core.Option.{Option, none, some, Option-elim, map, none-ne-some, bind}
use Prim.Native.Nat.{ℕ, ◌+◌}
use native.Mathlib.Omega.{arith}
use lib.Dec.{leb}
use lib.ListN.{length, take}
use lib.Seq.{take_all, length-take-le}
use borrow.Author.Tests.{leb-true, leb-false, lt-leb}
use Rattle.lists.specs.Choice.{◌>>◌, is_some}
use Rattle.lists.specs.Lists.{Bytes, every}
use Rattle.lists.proofs.ChoiceLaws.{test_true, given_none}
use Rattle.lists.proofs.ListLaws.{every_cons}
use Rattle.rules.specs.Limits.{program_response_limit, configuration_limit, signed_text_limit}
use Rattle.rules.specs.Limits.{vrf_outputs_limit, value_limit}
use Rattle.rules.specs.Limits.{state_text_limit, request_limit}
use Rattle.rules.specs.StateText.{read_state}
use Rattle.rules.specs.Refusals.{Call, Judgement, refused, reading, kind_asked, foreign}
use Rattle.rules.specs.Calls.{judge_call}
use Rattle.rules.specs.Program.{Files, within, read_request, requested, judge_files}

-- ---- a file

-- it is there and not too long
abbrev pub fits : ℕ → Option Bytes → Bool
fits limit none = false
fits limit (some s) = leb (length s) limit

-- such a file is taken
within_fits : (limit : ℕ) (s : Bytes) → leb (length s) limit ≡ true → within limit (some s) ≡ some s
unfolding within bind
within_fits limit s e = test_true (leb (length s) limit) (some s) e

-- no other is
within_fails : (limit : ℕ) (o : Option Bytes) → fits limit o ≡ false → within limit o ≡ none
unfolding within bind ◌>>◌
within_fails limit none e = refl
within_fails limit (some s) e = rw e refl

-- one that is missing is not
within_missing : (limit : ℕ) (o : Option Bytes) → is_some o ≡ false → within limit o ≡ none
within_missing limit o e = ap (within limit) (given_none o e) ∙ within_fails limit none refl

-- the first bytes of a file, one more than are allowed
abbrev pub cut : ℕ → Option Bytes → Option Bytes
cut limit o = map (take (limit + 1)) o

-- they are taken where the file is
within_cut : (limit : ℕ) (o : Option Bytes) → within limit (cut limit o) ≡ within limit o
within_cut limit none = refl
within_cut limit (some s) = go (leb (length s) limit) refl
  where
    go : (t : Bool) → leb (length s) limit ≡ t → within limit (some (take (limit + 1) s)) ≡ within limit (some s)
    go true e = ap (λ (x : Bytes). within limit (some x)) (take_all (limit + 1) s (omega (arith, leb-true (length s) limit e)))
    go false e =
        let l = length-take-le (limit + 1) s (omega (arith, leb-false (length s) limit e)) in
        within_fails limit (some (take (limit + 1) s)) (lt-leb (length (take (limit + 1) s)) limit (omega arith)) ∙ sym (within_fails limit (some s) e)

-- ---- the six files

-- they are all there
abbrev pub files_there : Bytes → Bytes → Bytes → Bytes → Bytes → Bytes → Files
files_there request response settings state sheet signed =
    record { request = some request; response = some response; settings = some settings; state = some state; sheet = some sheet; signed = some signed }

-- a test of each
abbrev pub tests : (ℕ → Option Bytes → Bool) → Files → List Bool
tests t f =
    t request_limit f.request
    ∷ t program_response_limit f.response
    ∷ t configuration_limit f.settings
    ∷ t state_text_limit f.state
    ∷ t vrf_outputs_limit f.sheet
    ∷ t signed_text_limit f.signed
    ∷ []

-- 1 is the answer where a test fails of one that is not taken then
module _ (t : ℕ → Option Bytes → Bool) (h : (limit : ℕ) (o : Option Bytes) → t limit o ≡ false → within limit o ≡ none) where
  -- it fails of a file, or of one after it
  test-refused : (limit : ℕ) (o : Option Bytes) (bs : List Bool) (next : Bytes → Judgement) → ((s : Bytes) → every bs ≡ false → next s ≡ refused 1)
      → every (t limit o ∷ bs) ≡ false → reading 1 (within limit o) next ≡ refused 1
  unfolding every reading
  test-refused limit o bs next g = go (t limit o) refl (within limit o) refl
    where
      go : (b : Bool) → t limit o ≡ b → (w : Option Bytes) → within limit o ≡ w → (b && every bs) ≡ false → reading 1 w next ≡ refused 1
      go b q none u e = refl
      go true q (some s) u e = g s e
      go false q (some s) u e = absurd (none-ne-some s (sym (h limit o q) ∙ u))

  -- no test is left to fail
  no_test : every [] ≡ false → ⊥
  unfolding every
  no_test e = false≢true (sym e)

  -- it fails of any
  tests-refused : (f : Files) → every (tests t f) ≡ false → judge_files f ≡ refused 1
  unfolding judge_files
  tests-refused f =
      test-refused request_limit f.request _ _ λ _.
      test-refused program_response_limit f.response _ _ λ _.
      test-refused configuration_limit f.settings _ _ λ _.
      test-refused state_text_limit f.state _ _ λ _.
      test-refused vrf_outputs_limit f.sheet _ _ λ _.
      test-refused signed_text_limit f.signed _ _ λ _ e. absurd (no_test e)

-- a file that is missing, whichever it is, is 1
pub missing_refused : (f : Files) → every (tests (λ _ o. is_some o) f) ≡ false → judge_files f ≡ refused 1
missing_refused = tests-refused (λ _ o. is_some o) within_missing

-- so is one that is too long
pub unfit_refused : (f : Files) → every (tests fits f) ≡ false → judge_files f ≡ refused 1
unfit_refused = tests-refused fits within_fails

-- a file that fits is handed on, and those after it fit
fit_read : (limit : ℕ) (s : Bytes) (bs : List Bool) (next : Bytes → Judgement) (j : Judgement) → (every bs ≡ true → next s ≡ j)
    → every (leb (length s) limit ∷ bs) ≡ true → reading 1 (within limit (some s)) next ≡ j
unfolding reading
fit_read limit s bs next j g e =
    let (b, r) = every_cons (leb (length s) limit) bs e in
    ap (λ (o : Option Bytes). reading 1 o next) (within_fits limit s b) ∙ g r

-- where all six fit, the call asked for is judged
pub fit_judged : (request response settings state sheet signed : Bytes) → every (tests fits (files_there request response settings state sheet signed)) ≡ true
    → judge_files (files_there request response settings state sheet signed)
    ≡ judge_call (read_request request).kind (read_state state) (requested (read_request request) response settings sheet) signed value_limit
unfolding judge_files
fit_judged request response settings state sheet signed =
    fit_read request_limit request _ _ _
    (fit_read program_response_limit response _ _ _
    (fit_read configuration_limit settings _ _ _
    (fit_read state_text_limit state _ _ _
    (fit_read vrf_outputs_limit sheet _ _ _
    (fit_read signed_text_limit signed _ _ _ (λ _. refl))))))

-- each file cut
abbrev pub cut_files : Files → Files
cut_files f =
    record {
      request = cut request_limit f.request;
      response = cut program_response_limit f.response;
      settings = cut configuration_limit f.settings;
      state = cut state_text_limit f.state;
      sheet = cut vrf_outputs_limit f.sheet;
      signed = cut signed_text_limit f.signed;
    }

-- they are judged as the files are: to read one byte more of each than is allowed is enough
pub cut_judged : (f : Files) → judge_files (cut_files f) ≡ judge_files f
unfolding judge_files
cut_judged f =
    simp (
      within_cut request_limit f.request,
      within_cut program_response_limit f.response,
      within_cut configuration_limit f.settings,
      within_cut state_text_limit f.state,
      within_cut vrf_outputs_limit f.sheet,
      within_cut signed_text_limit f.signed,
    )

-- ---- a request that asks for nothing

-- 6 applies to it, so that it is the answer where none of 1 to 5 is
pub kind_foreign : (c : Call) → c.inputs.kind ≡ none → foreign c ≡ true
unfolding foreign kind_asked Option-elim
kind_foreign c e = rw e refl
