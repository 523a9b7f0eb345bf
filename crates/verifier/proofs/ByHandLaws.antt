-- Functions over a struct that holds a reference, as they are proved by hand, along the code of
-- each, statement by statement; the check proves them by itself, and no proof rests on these laws.
-- Such a function has the right to read its text while a lifetime
-- lasts, which it is said to own, and a share of the lifetime's token, which shows that it lasts.
-- What it owns of a text, and of a reader that holds one, can be copied: a call takes one copy and
-- the token, and gives back the token, the answer, and the fact that its contract says of it. At
-- its end the function owes its answer, the token, and what it owned. Here is what all of them
-- share: a contract that asks nothing and says one fact of arguments and answer, and what a caller
-- has once a function with such a contract has returned.
use mathlib.Core.List.{List, [], ◌∷◌}
use Prim.Native.Nat.{ℕ}
use seplogic.Ra.Ura.{Ura}
use mir.Syntax.{Callee, Place, Opd as Operand, Body, call, seq}
use mir.Val.{Val}
use base.Logic.{ex_e, snd∗, id⊢}
use base.Fml.{Lft, Share}
use prog.Wp.{Env, Calls, Loops}
use types.Logic.{Logic, sem}
use contract.Lifetimes.{Lfts, Shares, toks}
use contract.Monad.{fact}
use contract.Notation.{connectives}
use types.Kit.{Item, Seq, runs, lands, Post as Exits, ‵, raw, ◌⊛◌, some, later, ◌$◌, move, use1, split}
use types.Kit.{pick, await}
use types.Run.{Opds}
use sound.WpLaws.{FmC}
use denote.RattleType.{RattleType}
use denote.Signature.{Signature, Slot, plain}
use denote.Steps.{heard}
use denote.Triple.Statement.{Contract, Triple}
use denote.Triple.Call.{calls_at}
use denote.Triple.End.{Kepts}
use denote.Triple.Entry.{Args, Vals}
use denote.Triple.Spec.{Spec, triple_of}
use denote.Triple.Clauses.{Ended, Clauses, closing, ensured, lasts}

-- shares of the tokens of n lifetimes, and of one
module _ {M : Type 1} {𝓤 : Ura M} (𝓛 : Logic 𝓤) where
  abbrev pub Tokens : (n : ℕ) → Lfts n → Shares n → Item 𝓤
  Tokens n κs qs = raw (toks 𝓛 n κs qs)

  abbrev pub Token : Lft → Share → Item 𝓤
  Token κ q = Tokens 1 (κ, tt) (q, tt)

-- at n lifetimes: parameters, what is kept of them at exit, and the answer's type
module _ (n : ℕ) (ps : List (Slot n)) (ks : Kepts ps) (R : Lfts n → RattleType) where
  abbrev pub signature : Signature
  signature = record { lifetimes = n; outlives = []; params = ps; result = plain R }

  abbrev pub ended : Ended
  ended = record { signature = signature; kept = ks }

  module _ (Says : (κs : Lfts n) → Args signature κs → (R κs).Denot → Type 0) {M : Type 1} (𝓤 : Ura M) where
    abbrev pub clauses : Clauses 𝓤 ended
    clauses κs a = record { ghost = Unit {0}; requires = λ _. (connectives 𝓤).⊤ₛ; ensures = λ _ r _. fact 𝓤 (Says κs a r) }

    module _ (𝓛 : Logic 𝓤) where
      open 𝓛 use {H}

      abbrev pub spec : Spec 𝓤 signature
      spec = closing 𝓛 ended clauses

      abbrev pub Call : Contract 𝓤
      Call = triple_of 𝓛 signature spec

      module _ (κs : Lfts n) (qs : Shares n) (a : Args signature κs) (vs : Vals signature κs) where
        -- a call at arguments and their machine values
        abbrev pub at : Call.Ghost
        at = ((κs, qs, tt, a, vs), tt)

        -- once it has returned there are the answer, the tokens, and what is said
        pub calls :
            {K : Type 0} {Γ : List (Item 𝓤)} {E : Env 𝓤 H} {C : Calls 𝓤 H} {Λ : Loops 𝓤 H} {p : Exits 𝓤 H} {f : Callee} {xs : List Operand} {to : Place} {next : Body}
            → K → FmC 𝓤 H 𝓛.laws C → Triple 𝓤 (C f) Call → Opds K 𝓛 (raw (Call.pre at) ∷ Γ) E xs (Call.args at)
            → ((r : (R κs).Denot) (u : Val) → Says κs a r → Seq K 𝓛 (‵ ((R κs).own_val r (u ∷ [])) ∷ Tokens 𝓛 n κs qs ∷ Γ) (lands C Λ E to u next p))
            → Seq K 𝓛 (raw (Call.pre at) ∷ Γ) (runs C Λ E (seq (call f xs to) next) p)
        calls {K} t fm known os then =
            calls_at t fm Call known at os (λ u.
            use1 𝓛 (later (some (λ (r : (R κs).Denot). (Tokens 𝓛 n κs qs ⊛ ‵ ((R κs).own_val r (u ∷ []))) ⊛ raw (ensured 𝓛 ended clauses κs a tt r)))) (id⊢ 𝓤 _) $ await t tt $ pick t (λ r.
            split t $ move t (1 ∷ []) $ use1 𝓛 (raw (fact 𝓤 (Says κs a r))) (ex_e 𝓤 _ (λ ws. snd∗ 𝓤 (sem 𝓛 (lasts ended κs a ws)) (fact 𝓤 (Says κs a r)))) $
            heard t (Says κs a r) (λ e. split t $ move t (1 ∷ []) $ then r u e)))
