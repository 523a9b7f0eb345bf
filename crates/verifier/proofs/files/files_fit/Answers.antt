-- `verifier::files::files_fit` meets its contract: a file that is too long decides, and else the
-- length of the signed text does.
use mathlib.Core.Path.{refl, sym}
use mathlib.Core.Bool.{and-true}
use borrow.Author.Tests.{le-leb, lt-leb}
use Rattle.lists.specs.Lists.{every}
use Rattle.verifier.proofs.files.files_fit.Goals as goal

pub returns-then-request-gt-REQUEST : goal.returns-then-request-gt-REQUEST
unfolding every
returns-then-request-gt-REQUEST c = rw (lt-leb _ _ c.if-request-gt-REQUEST.true) refl

pub returns-then-response-gt-RESPONSE : goal.returns-then-response-gt-RESPONSE
unfolding every
returns-then-response-gt-RESPONSE c =
    rw (le-leb _ _ c.if-request-gt-REQUEST.false, lt-leb _ _ c.if-response-gt-RESPONSE.true) refl

pub returns-then-configuration-gt-CONFIGURATION : goal.returns-then-configuration-gt-CONFIGURATION
unfolding every
returns-then-configuration-gt-CONFIGURATION c =
    rw (
      le-leb _ _ c.if-request-gt-REQUEST.false,
      le-leb _ _ c.if-response-gt-RESPONSE.false,
      lt-leb _ _ c.if-configuration-gt-CONFIGURATION.true,
    ) refl

pub returns-then-state-gt-TEXT : goal.returns-then-state-gt-TEXT
unfolding every
returns-then-state-gt-TEXT c =
    rw (
      le-leb _ _ c.if-request-gt-REQUEST.false,
      le-leb _ _ c.if-response-gt-RESPONSE.false,
      le-leb _ _ c.if-configuration-gt-CONFIGURATION.false,
      lt-leb _ _ c.if-state-gt-TEXT.true,
    ) refl

pub returns-then-outputs-gt-VRF_OUTPUTS : goal.returns-then-outputs-gt-VRF_OUTPUTS
unfolding every
returns-then-outputs-gt-VRF_OUTPUTS c =
    rw (
      le-leb _ _ c.if-request-gt-REQUEST.false,
      le-leb _ _ c.if-response-gt-RESPONSE.false,
      le-leb _ _ c.if-configuration-gt-CONFIGURATION.false,
      le-leb _ _ c.if-state-gt-TEXT.false,
      lt-leb _ _ c.if-outputs-gt-VRF_OUTPUTS.true,
    ) refl

pub returns : goal.returns
unfolding every
returns c =
    rw (
      le-leb _ _ c.if-request-gt-REQUEST.false,
      le-leb _ _ c.if-response-gt-RESPONSE.false,
      le-leb _ _ c.if-configuration-gt-CONFIGURATION.false,
      le-leb _ _ c.if-state-gt-TEXT.false,
      le-leb _ _ c.if-outputs-gt-VRF_OUTPUTS.false,
    ) (sym (and-true _))
