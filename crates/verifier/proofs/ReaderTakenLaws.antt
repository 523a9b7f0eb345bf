-- Functions that take a reader (src/reading.rt): what they have at entry and owe at exit, and what
-- their callers have.
use mathlib.Core.Path.{refl}
use mathlib.Core.List.{List, [], ◌∷◌}
use seplogic.Ra.Ura.{Ura}
use mir.Syntax.{Callee, Fn, named, Place, Opd as Operand, Body, call, seq}
use mir.Val.{Val, WT, has_ty}
use base.Logic.{SProp, ent, sep, emp, via, fst∗}
use base.Fml.{Lft, Share}
use lib.Dec.{T as Holds}
use prog.Wp.{Env, Calls, Loops, WpFn, Tables}
use types.Logic.{Logic, sem}
use types.Kit.{Item, Post as Exits, Seq, runs, lands, ‵, raw, ◌⊛◌, ⋆, ◌$◌, ◌∵◌, !, qed, move, drop}
use types.Kit.{use1, use2, split, join, fsplit, fjoin, suffices, frame, done}
use types.Run.{Opds}
use sound.WpLaws.{FmC, WpFn-mono}
use denote.RattleType.{RattleType, owns}
use denote.Signature.{Slot, plain, named_lft}
use denote.Laws.{Is, shows}
use denote.Steps.{facts, nothing}
use denote.Struct.Laws as LL
use denote.Triple.Statement.{Contract, Triple}
use denote.Triple.Entry.{on_entry}
use denote.Triple.Clauses.{Clauses}
use denote.Triple.Walked.{says, Stays, stay_none, walk_of, Goes-none, ends_at, walked, walk_Meets}
use denote.Exit.{yes}
use denote.Triple.End.{Kepts}
use Rattle.verifier.specs.declared.reading.Reader.{Reader}
use Rattle.verifier.specs.contracts.reading.Reader as T
use Rattle.verifier.proofs.reading.Reader.TheLaws as T'
use Rattle.verifier.proofs.ByHandLaws.{Token, signature, ended, clauses, Call, at, calls}
use Rattle.verifier.proofs.HeldLaws.{held, Held, held-twice}

-- the one parameter, which stays as it is
abbrev pub taken : List (Slot 1)
taken = plain held ∷ []

abbrev pub kept : Kepts taken
kept = (yes, tt)

abbrev stayed : Stays taken kept
stayed = (stay_none held yes, tt)

-- the function answers an R, and says something of it and the reader
module _ (R : RattleType) (Says : Reader → R.Denot → Type 0) {M : Type 1} {𝓤 : Ura M} (𝓛 : Logic 𝓤) where
  open 𝓛 use {H}

  abbrev pub Contracted : Contract 𝓤
  Contracted = Call 1 taken kept (λ κs. R) (λ κs a r. Says a.0 r) 𝓤 𝓛

  abbrev said : Clauses 𝓤 (ended 1 taken kept (λ κs. R))
  said = clauses 1 taken kept (λ κs. R) (λ κs a r. Says a.0 r) 𝓤

  module _ (κ : Lft) (q : Share) (d : Reader) where
    -- the call, at a machine value of the reader
    abbrev pub passed : Val → Contracted.Ghost
    passed v = at 1 taken kept (λ κs. R) (λ κs a r. Says a.0 r) 𝓤 𝓛 (κ, tt) (q, tt) (d, tt) (v ∷ [], tt)

    abbrev pub Entry : SProp 𝓤
    Entry = on_entry 𝓛 (signature 1 taken kept (λ κs. R)) (κ, tt) (q, tt) (d, tt) (T'.lowered d ∷ [], tt)

    abbrev pub Post : Val → SProp 𝓤
    Post = (walk_of 𝓛 (ended 1 taken kept (λ κs. R)) stayed said).post (passed (T'.lowered d))

    -- at entry: what the reader owns, and the token
    pub begins : ent 𝓤 Entry (⋆ 𝓛 (‵ (Held κ d (T'.lowered d)) ∷ Token 𝓛 κ q ∷ []))
    begins =
        qed 𝓛 (Token 𝓛 κ q ∷ ‵ (owns (held (κ, tt) ∷ []) (d, tt) (T'.lowered d ∷ [], tt)) ∷ []) ∵
        move ! (1 ∷ []) $ fsplit ! $ move ! (1 ∷ []) $ drop ! $ frame ! $ done !

    -- at exit: the answer, the token, and what the reader owns
    pub exits : (r : R.Denot) (u : Val) → Says d r → ent 𝓤 (⋆ 𝓛 (‵ (R.own_val r (u ∷ [])) ∷ Token 𝓛 κ q ∷ ‵ (Held κ d (T'.lowered d)) ∷ [])) (Post u)
    exits r u e =
        qed 𝓛 (‵ (R.own_val r (u ∷ [])) ∷ Token 𝓛 κ q ∷ ‵ (Held κ d (T'.lowered d)) ∷ []) ∵
        suffices ! _ (ends_at 𝓛 (ended 1 taken kept (λ κs. R)) stayed said (passed (T'.lowered d)) u r (tt, tt) (tt, tt)) $ says ! e $
        move ! (1 ∷ []) $ frame ! $ nothing ! $ move ! (2 ∷ 0 ∷ []) $ fjoin ! $ frame ! $ done !

    -- the owner of a reader hands it over and still owns it
    hands : (v : Val) → ent 𝓤 (⋆ 𝓛 (‵ (Held κ d v) ∷ Token 𝓛 κ q ∷ [])) (sep 𝓤 (Contracted.pre (passed v)) (sem 𝓛 (Held κ d v)))
    hands v =
        qed 𝓛 (‵ (Held κ d v) ∷ Token 𝓛 κ q ∷ []) ∵ use1 𝓛 (‵ (Held κ d v) ⊛ ‵ (Held κ d v)) (held-twice 𝓛 κ d v) $ split ! $ nothing ! $ move ! (1 ∷ 0 ∷ []) $ fjoin ! $ move ! (2 ∷ 0 ∷ []) $
        use2 𝓛 (raw (Contracted.pre (passed v))) (qed 𝓛 (Token 𝓛 κ q ∷ ‵ (owns (held (κ, tt) ∷ []) (d, tt) (v ∷ [], tt)) ∷ []) ∵ join ! $ frame ! $ done !) $ frame ! $ done !

    -- so a caller has reader and token as before, and an answer with what is said of it
    pub asks :
        {K : Type 0} {Γ : List (Item 𝓤)} {E : Env 𝓤 H} {C : Calls 𝓤 H} {Λ : Loops 𝓤 H} {p : Exits 𝓤 H} {f : Callee} {xs : List Operand} {to : Place} {next : Body}
        → K → FmC 𝓤 H 𝓛.laws C → Triple 𝓤 (C f) Contracted → (v : Val) → Opds K 𝓛 (raw (Contracted.pre (passed v)) ∷ ‵ (Held κ d v) ∷ Γ) E xs (v ∷ [])
        → ((r : R.Denot) (u : Val) → Says d r → Is R r (u ∷ []) → Seq K 𝓛 (‵ (Held κ d v) ∷ Token 𝓛 κ q ∷ Γ) (lands C Λ E to u next p))
        → Seq K 𝓛 (‵ (Held κ d v) ∷ Token 𝓛 κ q ∷ Γ) (runs C Λ E (seq (call f xs to) next) p)
    asks t fm known v os then =
        use2 𝓛 (raw (Contracted.pre (passed v)) ⊛ ‵ (Held κ d v)) (hands v) $ split t $
        calls 1 taken kept (λ κs. R) (λ κs a r. Says a.0 r) 𝓤 𝓛 (κ, tt) (q, tt) (d, tt) (v ∷ [], tt) t fm known os (λ r u e.
        facts t R (Is R) (shows 𝓛 R) r (u ∷ []) (λ is. move t (1 ∷ 0 ∷ []) $ then r u e is))

  -- a proof at every reader shows the contract
  pub meets :
      (body : Fn) (𝓣 : Tables 𝓤 H)
      → ((κ : Lft) (q : Share) (d : Reader) → Holds (has_ty (T'.mir (named 0)) (T'.lowered d)) × WT (T'.lowered d)
      → ent 𝓤 (Entry κ q d) (WpFn 𝓤 H 𝓣.C 𝓣.Λ body (T'.lowered d ∷ []) (Post κ q d)))
      → Triple 𝓤 (WpFn 𝓤 H 𝓣.C 𝓣.Λ body) Contracted
  meets body 𝓣 follow =
      let run = WpFn 𝓤 H 𝓣.C 𝓣.Λ body in
      walk_Meets 𝓛 (ended 1 taken kept (λ κs. R)) stayed (Goes-none 𝓛 1 held yes (λ κs x f. refl), tt) said run (WpFn-mono 𝓤 H 𝓛.laws 𝓣 body)
      (walked 𝓛 (ended 1 taken kept (λ κs. R)) stayed said run
      (λ κs. (LL.vals (T.the_type (named_lft 1 0 tt κs)) (T'.the_laws (named_lft 1 0 tt κs)), tt)) (λ κs. (LL.tells (T.the_type (named_lft 1 0 tt κs)) (T'.the_laws (named_lft 1 0 tt κs)), tt))
      (λ κs qs bounds a g are. via 𝓤 _ (fst∗ 𝓤 _ (emp 𝓤)) (follow κs.0 qs.0 a.0 ((LL.lawful (T.the_type (named_lft 1 0 tt κs)) (T'.the_laws (named_lft 1 0 tt κs)) 𝓛).typed a.0 _ are.0).0)))
