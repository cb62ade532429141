use Rattle.std.proofs.Common.{◌≡◌, ℕ, ◌-◌, ◌≤◌, Bool, true, List, [], ◌∷◌, Some, None, refl, sym, ap, subst, inl, inr, arith}
use Rattle.oss_base.specs.declared.place.Span.{Span}
use Rattle.oss_syntax.specs.declared.words.Word.{Word}
use Rattle.oss_syntax.specs.declared.expression.PortWord.{PortWord}
use Rattle.oss_syntax.specs.declared.expression.PrefixWord.{PrefixWord}
use Rattle.oss_syntax.specs.declared.expression.PrefixWord.TheVariants as prefix
use Rattle.oss_syntax.specs.declared.expression.BinaryWord.TheVariants as binary
use Rattle.oss_syntax.specs.declared.expression.Role.{Role}
use Rattle.oss_syntax.specs.declared.expression.Role.TheVariants as roles
use Rattle.oss_syntax.specs.declared.terminal.Mark.TheVariants as mark
use Rattle.oss_syntax.specs.Alphabet.{Terminal}
use Rattle.oss_syntax.specs.Alphabet as terminal
use Rattle.oss_syntax.specs.Expressions.{Tree, Name, Dotted, Numeral, Truth, Brackets, OfPort, Prefix, Binary, prefix_level, allows_prefix}
use Rattle.oss_syntax.specs.Formulas.{Spells, SpellsPrefix, SecondSpelling}
use Rattle.oss_reader.specs.Phrases.{OnlyPhrase, NoPhrase, Phrase, PhrasesGoOnFrom, EndsAtLevel, prefix_of, CanBegin}
use Rattle.oss_reader.proofs.Grouping.{OperandAt, never_first, begins_first, level-ten, height-pos}

prefix_first_second : (ts : List Terminal) (first : Terminal) (more : List Terminal) (word : PrefixWord) (span : Span)
    (mid : List Terminal)
    → ts ≡ first ∷ more → SecondSpelling ts word span mid → prefix_of first ≡ Some (word, span)
prefix_first_second ts first more prefix.Minus span mid e h = let same : first ≡ terminal.Binary binary.Minus span = cc in ap prefix_of same
prefix_first_second ts first more prefix.Not span mid e h = absurd h
prefix_first_second ts first more prefix.Always span mid e h = absurd h
prefix_first_second ts first more prefix.Never span mid e h = absurd h
prefix_first_second ts first more prefix.Future span mid e h = let f = h.2 in let same : first ≡ terminal.Mark mark.In span = cc in ap prefix_of same
prefix_first_second ts first more prefix.Then span mid e h = absurd h

-- the first terminal tells the word before an operand
pub prefix_first : (ts : List Terminal) (first : Terminal) (more : List Terminal) (word : PrefixWord) (span : Span)
    (mid : List Terminal)
    → ts ≡ first ∷ more → SpellsPrefix ts word span mid → prefix_of first ≡ Some (word, span)
prefix_first ts first more word span mid e h =
    elim h [
      | inl i ↦ let same : first ≡ terminal.Prefix word span = cc in ap prefix_of same
      | inr s ↦ prefix_first_second ts first more word span mid e s
    ]

pub prefix_not : (ts : List Terminal) (first : Terminal) (more : List Terminal) (word : PrefixWord) (span : Span)
    (mid : List Terminal)
    → ts ≡ first ∷ more → prefix_of first ≡ None → SpellsPrefix ts word span mid → ⊥
prefix_not ts first more word span mid e none h = let some = prefix_first ts first more word span mid e h in cc

second_not : (ts : List Terminal) (word : PrefixWord) (span : Span) (mid mid' : List Terminal)
    → ts ≡ terminal.Prefix word span ∷ mid → SecondSpelling ts word span mid' → ⊥
second_not ts prefix.Minus span mid mid' e h = cc
second_not ts prefix.Not span mid mid' e h = h
second_not ts prefix.Always span mid mid' e h = h
second_not ts prefix.Never span mid mid' e h = h
second_not ts prefix.Future span mid mid' e h = let f = h.2 in cc
second_not ts prefix.Then span mid mid' e h = h

second_left : (ts : List Terminal) (word : PrefixWord) (span : Span) (mid mid' : List Terminal)
    → SecondSpelling ts word span mid → SecondSpelling ts word span mid' → mid' ≡ mid
second_left ts prefix.Minus span mid mid' h h' = cc
second_left ts prefix.Not span mid mid' h h' = absurd h
second_left ts prefix.Always span mid mid' h h' = absurd h
second_left ts prefix.Never span mid mid' h h' = absurd h
second_left ts prefix.Future span mid mid' h h' = let f = h.2 in let f' = h'.2 in cc
second_left ts prefix.Then span mid mid' h h' = absurd h

-- what is left after the word before an operand is settled
pub prefix_left : (ts : List Terminal) (word : PrefixWord) (span : Span) (mid mid' : List Terminal)
    → SpellsPrefix ts word span mid → SpellsPrefix ts word span mid' → mid' ≡ mid
prefix_left ts word span mid mid' h h' =
    elim h [
      | inl e ↦ elim h' [ inl e' ↦ cc | inr s' ↦ absurd (second_not ts word span mid mid' e s') ]
      | inr s ↦ elim h' [ inl e' ↦ absurd (second_not ts word span mid' mid e' s) | inr s' ↦ second_left ts word span mid mid' s s' ]
    ]

-- an operand that begins with a word before an operand
pub record PrefixAt (role : Role) (room k : ℕ) (ts : List Terminal) (word : PrefixWord) (span : Span) (o : Tree)
    (left : List Terminal) : Type 0 where
  pub operand : Tree
  pub mid : List Terminal
  pub is : o ≡ Prefix word operand span
  pub spelled : SpellsPrefix ts word span mid
  pub allowed : allows_prefix role word ≡ true
  pub binds : prefix_level word ≤ k
  pub low : 2 ≤ room
  pub phrase : Phrase role (room - 1) (prefix_level word) mid operand left

prefix_here : (role : Role) (room k : ℕ) (ts : List Terminal) (word : PrefixWord) (span : Span) (e : Tree)
    (left : List Terminal)
    → OperandAt role room k ts (Prefix word e span) left → PrefixAt role room k ts word span (Prefix word e span) left
prefix_here role room k ts word span e left p =
    let s = p.spells in
    let high = p.height in
    let low = height-pos e in
    record {
      operand = e;
      mid = s.2;
      is = refl;
      spelled = s.3;
      allowed = s.0;
      binds = p.level;
      low = omega arith;
      phrase = record { spells = s.4; level = s.1; height = omega arith; stops = p.ends.after_prefix word (omega arith) };
    }

-- an operand that begins with a name, where it is no dotted one
sole_name : (role : Role) (room k : ℕ) (ts : List Terminal) (word : Word) (mid : List Terminal)
    → ts ≡ terminal.Name word ∷ mid
    → (role ≡ roles.State → (dot : Span) (more : List Terminal) → mid ≡ terminal.Mark mark.Dot dot ∷ more → ⊥)
    → (o : Tree) (left : List Terminal) → OperandAt role room k ts o left → (o ≡ Name word) × (left ≡ mid)
sole_name role room k ts word mid e undotted (Name w) left p = let q0 : ts ≡ terminal.Name w ∷ left = p.spells in
    (let same : w ≡ word = cc in ap Name same, cc)
sole_name role room k ts word mid e undotted (Dotted s q) left p =
    let q0 : ts ≡ terminal.Name s ∷ terminal.Mark mark.Dot p.spells.1 ∷ terminal.Name q ∷ left = p.spells.2 in absurd
    (undotted p.spells.0 p.spells.1 (terminal.Name q ∷ left) cc)
sole_name role room k ts word mid e undotted (Numeral n s) left p = let q0 : ts ≡ terminal.Numeral n s ∷ left = p.spells in absurd (cc)
sole_name role room k ts word mid e undotted (Truth b s) left p = let q0 : ts ≡ terminal.Truth b s ∷ left = p.spells in absurd (cc)
sole_name role room k ts word mid e undotted (Brackets i s) left p = let q0 : ts ≡ terminal.Mark mark.Open s ∷ p.spells.1 = p.spells.2 in absurd (cc)
sole_name role room k ts word mid e undotted (OfPort v q s) left p =
    let q0 : ts ≡ terminal.OfPort v s ∷ terminal.Mark mark.Open p.spells.1 ∷ terminal.Name q ∷ terminal.Mark mark.Close p.spells.2 ∷ left =
    p.spells.3 in absurd (cc)
sole_name role room k ts word mid e undotted (Prefix v i s) left p = absurd (prefix_not ts (terminal.Name word) (mid) v s p.spells.2 e refl p.spells.3)
sole_name role room k ts word mid e undotted (Binary v i j s) left p = absurd p.operand

pub begins_name : (role : Role) (room k : ℕ) (ts : List Terminal) (word : Word) (mid : List Terminal)
    → ts ≡ terminal.Name word ∷ mid → 1 ≤ k → 1 ≤ room
    → (role ≡ roles.State → (dot : Span) (more : List Terminal) → mid ≡ terminal.Mark mark.Dot dot ∷ more → ⊥)
    → PhrasesGoOnFrom role room k ts (Name word) mid
begins_name role room k ts word mid e low high undotted = begins_first role room k ts (Name word) mid e low high
    (sole_name role room k ts word mid e undotted)

-- a name and a dot begin a dotted name
sole_dotted : (role : Role) (room k : ℕ) (ts : List Terminal) (sub : Word) (dot : Span) (mid : List Terminal)
    → ts ≡ terminal.Name sub ∷ terminal.Mark mark.Dot dot ∷ mid
    → (o : Tree) (left : List Terminal) → OperandAt role room k ts o left
    → (port : Word) × (o ≡ Dotted sub port) × (mid ≡ terminal.Name port ∷ left)
sole_dotted role room k ts sub dot mid e (Name w) left p = let q0 : ts ≡ terminal.Name w ∷ left = p.spells in absurd (p.ends.dot dot mid cc)
sole_dotted role room k ts sub dot mid e (Dotted s q) left p =
    let q0 : ts ≡ terminal.Name s ∷ terminal.Mark mark.Dot p.spells.1 ∷ terminal.Name q ∷ left = p.spells.2 in
    (q, (let same : s ≡ sub = cc in ap (λ (x : Word). Dotted x q) same), cc)
sole_dotted role room k ts sub dot mid e (Numeral n s) left p = let q0 : ts ≡ terminal.Numeral n s ∷ left = p.spells in absurd (cc)
sole_dotted role room k ts sub dot mid e (Truth b s) left p = let q0 : ts ≡ terminal.Truth b s ∷ left = p.spells in absurd (cc)
sole_dotted role room k ts sub dot mid e (Brackets i s) left p = let q0 : ts ≡ terminal.Mark mark.Open s ∷ p.spells.1 = p.spells.2 in absurd (cc)
sole_dotted role room k ts sub dot mid e (OfPort v q s) left p =
    let q0 : ts ≡ terminal.OfPort v s ∷ terminal.Mark mark.Open p.spells.1 ∷ terminal.Name q ∷ terminal.Mark mark.Close p.spells.2 ∷ left =
    p.spells.3 in absurd (cc)
sole_dotted role room k ts sub dot mid e (Prefix v i s) left p = absurd
    (prefix_not ts (terminal.Name sub) (terminal.Mark mark.Dot dot ∷ mid) v s p.spells.2 e refl p.spells.3)
sole_dotted role room k ts sub dot mid e (Binary v i j s) left p = absurd p.operand

pub begins_dotted : (room k : ℕ) (ts : List Terminal) (sub : Word) (dot : Span) (port : Word) (mid : List Terminal)
    → ts ≡ terminal.Name sub ∷ terminal.Mark mark.Dot dot ∷ terminal.Name port ∷ mid → 1 ≤ k → 1 ≤ room
    → PhrasesGoOnFrom roles.State room k ts (Dotted sub port) mid
begins_dotted room k ts sub dot port mid e low high =
    begins_first roles.State room k ts (Dotted sub port) mid (refl, dot, e) low high (λ o left p.
    let f = sole_dotted roles.State room k ts sub dot (terminal.Name port ∷ mid) e o left p in
    let is = f.1 in
    let there = f.2 in
    let same : f.0 ≡ port = cc in
    let whole = ap (λ (x : Word). Dotted sub x) same in
    (cc, cc))

pub never_dotted : (room k : ℕ) (ts : List Terminal) (sub : Word) (dot : Span) (mid : List Terminal)
    → ts ≡ terminal.Name sub ∷ terminal.Mark mark.Dot dot ∷ mid
    → ((port : Word) (left : List Terminal) → mid ≡ terminal.Name port ∷ left → ⊥)
    → NoPhrase roles.State room k ts
never_dotted room k ts sub dot mid e nameless =
    never_first roles.State room k ts (λ o left p. let f = sole_dotted roles.State room k ts sub dot mid e o left p in nameless f.0 left f.2)

sole_numeral : (role : Role) (room k : ℕ) (ts : List Terminal) (value : ℕ) (span : Span) (mid : List Terminal)
    → ts ≡ terminal.Numeral value span ∷ mid
    → (o : Tree) (left : List Terminal) → OperandAt role room k ts o left → (o ≡ Numeral value span) × (left ≡ mid)
sole_numeral role room k ts value span mid e (Name w) left p = let q0 : ts ≡ terminal.Name w ∷ left = p.spells in absurd (cc)
sole_numeral role room k ts value span mid e (Dotted s q) left p =
    let q0 : ts ≡ terminal.Name s ∷ terminal.Mark mark.Dot p.spells.1 ∷ terminal.Name q ∷ left = p.spells.2 in absurd (cc)
sole_numeral role room k ts value span mid e (Numeral n s) left p = let q0 : ts ≡ terminal.Numeral n s ∷ left = p.spells in
    (let one : n ≡ value = cc in let two : s ≡ span = cc in cc, cc)
sole_numeral role room k ts value span mid e (Truth b s) left p = let q0 : ts ≡ terminal.Truth b s ∷ left = p.spells in absurd (cc)
sole_numeral role room k ts value span mid e (Brackets i s) left p = let q0 : ts ≡ terminal.Mark mark.Open s ∷ p.spells.1 = p.spells.2 in absurd (cc)
sole_numeral role room k ts value span mid e (OfPort v q s) left p =
    let q0 : ts ≡ terminal.OfPort v s ∷ terminal.Mark mark.Open p.spells.1 ∷ terminal.Name q ∷ terminal.Mark mark.Close p.spells.2 ∷ left =
    p.spells.3 in absurd (cc)
sole_numeral role room k ts value span mid e (Prefix v i s) left p = absurd
    (prefix_not ts (terminal.Numeral value span) (mid) v s p.spells.2 e refl p.spells.3)
sole_numeral role room k ts value span mid e (Binary v i j s) left p = absurd p.operand

pub begins_numeral : (role : Role) (room k : ℕ) (ts : List Terminal) (value : ℕ) (span : Span) (mid : List Terminal)
    → ts ≡ terminal.Numeral value span ∷ mid → 1 ≤ k → 1 ≤ room
    → PhrasesGoOnFrom role room k ts (Numeral value span) mid
begins_numeral role room k ts value span mid e low high = begins_first role room k ts (Numeral value span) mid e low high
    (sole_numeral role room k ts value span mid e)

sole_truth : (role : Role) (room k : ℕ) (ts : List Terminal) (truth : Bool) (span : Span) (mid : List Terminal)
    → ts ≡ terminal.Truth truth span ∷ mid
    → (o : Tree) (left : List Terminal) → OperandAt role room k ts o left → (o ≡ Truth truth span) × (left ≡ mid)
sole_truth role room k ts truth span mid e (Name w) left p = let q0 : ts ≡ terminal.Name w ∷ left = p.spells in absurd (cc)
sole_truth role room k ts truth span mid e (Dotted s q) left p =
    let q0 : ts ≡ terminal.Name s ∷ terminal.Mark mark.Dot p.spells.1 ∷ terminal.Name q ∷ left = p.spells.2 in absurd (cc)
sole_truth role room k ts truth span mid e (Numeral n s) left p = let q0 : ts ≡ terminal.Numeral n s ∷ left = p.spells in absurd (cc)
sole_truth role room k ts truth span mid e (Truth b s) left p = let q0 : ts ≡ terminal.Truth b s ∷ left = p.spells in
    (let one : b ≡ truth = cc in let two : s ≡ span = cc in cc, cc)
sole_truth role room k ts truth span mid e (Brackets i s) left p = let q0 : ts ≡ terminal.Mark mark.Open s ∷ p.spells.1 = p.spells.2 in absurd (cc)
sole_truth role room k ts truth span mid e (OfPort v q s) left p =
    let q0 : ts ≡ terminal.OfPort v s ∷ terminal.Mark mark.Open p.spells.1 ∷ terminal.Name q ∷ terminal.Mark mark.Close p.spells.2 ∷ left =
    p.spells.3 in absurd (cc)
sole_truth role room k ts truth span mid e (Prefix v i s) left p = absurd (prefix_not ts (terminal.Truth truth span) (mid) v s p.spells.2 e refl p.spells.3)
sole_truth role room k ts truth span mid e (Binary v i j s) left p = absurd p.operand

pub begins_truth : (role : Role) (room k : ℕ) (ts : List Terminal) (truth : Bool) (span : Span) (mid : List Terminal)
    → ts ≡ terminal.Truth truth span ∷ mid → 1 ≤ k → 1 ≤ room
    → PhrasesGoOnFrom role room k ts (Truth truth span) mid
begins_truth role room k ts truth span mid e low high = begins_first role room k ts (Truth truth span) mid e low high
    (sole_truth role room k ts truth span mid e)

pub stops_close : (k : ℕ) (closing : Span) (left : List Terminal)
    → EndsAtLevel k (terminal.Mark mark.Close closing ∷ left)
stops_close k closing left = record { dot = λ s m e. cc; binary = λ w s m e. absurd (cc) }

pub stops_semicolon : (k : ℕ) (semicolon : Span) (left : List Terminal)
    → EndsAtLevel k (terminal.Mark mark.Semicolon semicolon ∷ left)
stops_semicolon k semicolon left = record { dot = λ s m e. cc; binary = λ w s m e. absurd (cc) }

sole_brackets : (role : Role) (room k : ℕ) (ts : List Terminal) (span : Span) (mid : List Terminal)
    → ts ≡ terminal.Mark mark.Open span ∷ mid
    → (o : Tree) (left : List Terminal) → OperandAt role room k ts o left
    → (inside : Tree) × (closing : Span) × (o ≡ Brackets inside span) × Phrase role (room - 1) 10 mid inside
    (terminal.Mark mark.Close closing ∷ left) × (2 ≤ room)
sole_brackets role room k ts span mid e (Name w) left p = let q0 : ts ≡ terminal.Name w ∷ left = p.spells in absurd (cc)
sole_brackets role room k ts span mid e (Dotted s q) left p =
    let q0 : ts ≡ terminal.Name s ∷ terminal.Mark mark.Dot p.spells.1 ∷ terminal.Name q ∷ left = p.spells.2 in absurd (cc)
sole_brackets role room k ts span mid e (Numeral n s) left p = let q0 : ts ≡ terminal.Numeral n s ∷ left = p.spells in absurd (cc)
sole_brackets role room k ts span mid e (Truth b s) left p = let q0 : ts ≡ terminal.Truth b s ∷ left = p.spells in absurd (cc)
sole_brackets role room k ts span mid e (Brackets i s) left p =
    let q0 : ts ≡ terminal.Mark mark.Open s ∷ p.spells.1 = p.spells.2 in
    let same : s ≡ span = cc in
    let there : p.spells.1 ≡ mid = cc in
    let high = p.height in
    let low = height-pos i in (
      i,
      p.spells.0,
      ap (λ (x : Span). Brackets i x) same,
      record {
        spells = subst (λ (x : List Terminal). Spells role x i (terminal.Mark mark.Close p.spells.0 ∷ left)) there p.spells.3;
        level =
            level-ten i;
        height = omega arith;
        stops = stops_close 10 p.spells.0 left;
      },
      omega arith,
    )
sole_brackets role room k ts span mid e (OfPort v q s) left p =
    let q0 : ts ≡ terminal.OfPort v s ∷ terminal.Mark mark.Open p.spells.1 ∷ terminal.Name q ∷ terminal.Mark mark.Close p.spells.2 ∷ left =
    p.spells.3 in absurd (cc)
sole_brackets role room k ts span mid e (Prefix v i s) left p = absurd (prefix_not ts (terminal.Mark mark.Open span) (mid) v s p.spells.2 e refl p.spells.3)
sole_brackets role room k ts span mid e (Binary v i j s) left p = absurd p.operand

pub begins_brackets : (role : Role) (room k : ℕ) (ts : List Terminal) (span : Span) (mid : List Terminal)
    (inside : Tree) (rest : List Terminal) (closing : Span) (left : List Terminal)
    → ts ≡ terminal.Mark mark.Open span ∷ mid → 1 ≤ k → 2 ≤ room
    → OnlyPhrase role (room - 1) 10 mid inside rest → rest ≡ terminal.Mark mark.Close closing ∷ left
    → PhrasesGoOnFrom role room k ts (Brackets inside span) left
begins_brackets role room k ts span mid inside rest closing left e low high o closed =
    let inner = o.phrase.height in
    begins_first role room k ts (Brackets inside span) left
    (closing, mid, e, subst (λ (x : List Terminal). Spells role mid inside x) closed o.phrase.spells) low (omega arith)
    (λ o' left' p.
    let f = sole_brackets role room k ts span mid e o' left' p in
    let same = o.only f.0 (terminal.Mark mark.Close f.1 ∷ left') f.3 in
    let whole : Brackets f.0 span ≡ Brackets inside span = ap (λ (x : Tree). Brackets x span) same.0 in
    let is = f.2 in
    let after = same.1 in
    (cc, cc))

pub never_brackets : (role : Role) (room k : ℕ) (ts : List Terminal) (span : Span) (mid : List Terminal)
    → ts ≡ terminal.Mark mark.Open span ∷ mid
    → (2 ≤ room → NoPhrase role (room - 1) 10 mid) → NoPhrase role room k ts
never_brackets role room k ts span mid e none =
    never_first role room k ts (λ o left p. let f = sole_brackets role room k ts span mid e o left p in none f.4 f.0
    (terminal.Mark mark.Close f.1 ∷ left) f.3)

pub never_unclosed : (role : Role) (room k : ℕ) (ts : List Terminal) (span : Span) (mid : List Terminal)
    (inside : Tree) (rest : List Terminal)
    → ts ≡ terminal.Mark mark.Open span ∷ mid → OnlyPhrase role (room - 1) 10 mid inside rest
    → ((closing : Span) (left : List Terminal) → rest ≡ terminal.Mark mark.Close closing ∷ left → ⊥)
    → NoPhrase role room k ts
never_unclosed role room k ts span mid inside rest e o unclosed =
    never_first role room k ts (λ o' left p.
    let f = sole_brackets role room k ts span mid e o' left p in
    let same = o.only f.0 (terminal.Mark mark.Close f.1 ∷ left) f.3 in
    unclosed f.1 left (sym same.1))

sole_of_port : (role : Role) (room k : ℕ) (ts : List Terminal) (word : PortWord) (span : Span) (mid : List Terminal)
    → ts ≡ terminal.OfPort word span ∷ mid
    → (o : Tree) (left : List Terminal) → OperandAt role room k ts o left
    → (role ≡ roles.Formula) × (opening : Span) × (port : Word) × (closing : Span) × (o ≡ OfPort word port span)
    × (mid ≡ terminal.Mark mark.Open opening ∷ terminal.Name port ∷ terminal.Mark mark.Close closing ∷ left)
sole_of_port role room k ts word span mid e (Name w) left p = let q0 : ts ≡ terminal.Name w ∷ left = p.spells in absurd (cc)
sole_of_port role room k ts word span mid e (Dotted s q) left p =
    let q0 : ts ≡ terminal.Name s ∷ terminal.Mark mark.Dot p.spells.1 ∷ terminal.Name q ∷ left = p.spells.2 in absurd (cc)
sole_of_port role room k ts word span mid e (Numeral n s) left p = let q0 : ts ≡ terminal.Numeral n s ∷ left = p.spells in absurd (cc)
sole_of_port role room k ts word span mid e (Truth b s) left p = let q0 : ts ≡ terminal.Truth b s ∷ left = p.spells in absurd (cc)
sole_of_port role room k ts word span mid e (Brackets i s) left p = let q0 : ts ≡ terminal.Mark mark.Open s ∷ p.spells.1 = p.spells.2 in absurd (cc)
sole_of_port role room k ts word span mid e (OfPort v q s) left p =
    let q0 : ts ≡ terminal.OfPort v s ∷ terminal.Mark mark.Open p.spells.1 ∷ terminal.Name q ∷ terminal.Mark mark.Close p.spells.2 ∷ left = p.spells.3 in
    let same : v ≡ word = cc in
    let there : s ≡ span = cc in
    (p.spells.0, p.spells.1, q, p.spells.2, cc, cc)
sole_of_port role room k ts word span mid e (Prefix v i s) left p = absurd
    (prefix_not ts (terminal.OfPort word span) (mid) v s p.spells.2 e refl p.spells.3)
sole_of_port role room k ts word span mid e (Binary v i j s) left p = absurd p.operand

pub begins_of_port : (room k : ℕ) (ts : List Terminal) (word : PortWord) (span opening : Span) (port : Word)
    (closing : Span) (left : List Terminal)
    → ts ≡ terminal.OfPort word span ∷ terminal.Mark mark.Open opening ∷ terminal.Name port ∷ terminal.Mark mark.Close closing ∷ left → 1 ≤ k → 1 ≤ room
    → PhrasesGoOnFrom roles.Formula room k ts (OfPort word port span) left
begins_of_port room k ts word span opening port closing left e low high =
    begins_first roles.Formula room k ts (OfPort word port span) left (refl, opening, closing, e) low high
    (λ o left' p.
    let f = sole_of_port roles.Formula room k ts word span
    (terminal.Mark mark.Open opening ∷ terminal.Name port ∷ terminal.Mark mark.Close closing ∷ left) e o left' p in
    let is = f.4 in
    let there = f.5 in
    let same : f.2 ≡ port = cc in
    let whole = ap (λ (x : Word). OfPort word x span) same in
    (cc, cc))

pub never_of_port : (role : Role) (room k : ℕ) (ts : List Terminal) (word : PortWord) (span : Span)
    (mid : List Terminal) → ts ≡ terminal.OfPort word span ∷ mid
    → (role ≡ roles.Formula → (opening : Span) (port : Word) (closing : Span) (left : List Terminal)
    → mid ≡ terminal.Mark mark.Open opening ∷ terminal.Name port ∷ terminal.Mark mark.Close closing ∷ left → ⊥)
    → NoPhrase role room k ts
never_of_port role room k ts word span mid e none =
    never_first role room k ts (λ o left p. let f = sole_of_port role room k ts word span mid e o left p in none f.0 f.1 f.2 f.3 left f.5)

some_same : (a b : PrefixWord × Span) → Some a ≡ Some b → a ≡ b
some_same a b e = cc

sole_prefix : (role : Role) (room k : ℕ) (ts : List Terminal) (first : Terminal) (more : List Terminal)
    (word : PrefixWord) (span : Span) → ts ≡ first ∷ more → prefix_of first ≡ Some (word, span)
    → (o : Tree) (left : List Terminal) → OperandAt role room k ts o left → PrefixAt role room k ts word span o left
sole_prefix role room k ts first more word span e begins (Name w) left p = let q0 : ts ≡ terminal.Name w ∷ left =
    p.spells in let same : first ≡ terminal.Name w = cc in let none = ap prefix_of same in absurd (cc)
sole_prefix role room k ts first more word span e begins (Dotted s q) left p =
    let q0 : ts ≡ terminal.Name s ∷ terminal.Mark mark.Dot p.spells.1 ∷ terminal.Name q ∷ left = p.spells.2 in let same : first ≡ terminal.Name s =
    cc in let none = ap prefix_of same in absurd (cc)
sole_prefix role room k ts first more word span e begins (Numeral n s) left p = let q0 : ts ≡ terminal.Numeral n s ∷ left =
    p.spells in let same : first ≡ terminal.Numeral n s = cc in let none = ap prefix_of same in absurd (cc)
sole_prefix role room k ts first more word span e begins (Truth b s) left p = let q0 : ts ≡ terminal.Truth b s ∷ left =
    p.spells in let same : first ≡ terminal.Truth b s = cc in let none = ap prefix_of same in absurd (cc)
sole_prefix role room k ts first more word span e begins (Brackets i s) left p = let q0 : ts ≡ terminal.Mark mark.Open s ∷ p.spells.1 =
    p.spells.2 in let same : first ≡ terminal.Mark mark.Open s = cc in let none = ap prefix_of same in absurd (cc)
sole_prefix role room k ts first more word span e begins (OfPort v q s) left p =
    let q0 : ts ≡ terminal.OfPort v s ∷ terminal.Mark mark.Open p.spells.1 ∷ terminal.Name q ∷ terminal.Mark mark.Close p.spells.2 ∷ left =
    p.spells.3 in let same : first ≡ terminal.OfPort v s = cc in let none = ap prefix_of same in absurd (cc)
sole_prefix role room k ts first more word span e begins (Prefix v i s) left p =
    let found = prefix_first ts first more v s p.spells.2 e p.spells.3 in
    let pair = some_same (v, s) (word, span) cc in
    let one : v ≡ word = ap (λ (x : PrefixWord × Span). x.0) pair in
    let two : s ≡ span = ap (λ (x : PrefixWord × Span). x.1) pair in
    let at = prefix_here role room k ts v s i left p in
    subst (λ (x : PrefixWord). PrefixAt role room k ts x span (Prefix v i s) left) one
    (subst (λ (x : Span). PrefixAt role room k ts v x (Prefix v i s) left) two at)
sole_prefix role room k ts first more word span e begins (Binary v i j s) left p = absurd p.operand

pub never_prefix : (role : Role) (room k : ℕ) (ts : List Terminal) (first : Terminal) (more : List Terminal)
    (word : PrefixWord) (span : Span) → ts ≡ first ∷ more → prefix_of first ≡ Some (word, span)
    → ((mid : List Terminal) → SpellsPrefix ts word span mid → allows_prefix role word ≡ true → prefix_level word ≤ k
    → 2 ≤ room → NoPhrase role (room - 1) (prefix_level word) mid)
    → NoPhrase role room k ts
never_prefix role room k ts first more word span e begins none =
    never_first role room k ts (λ o left p.
    let at = sole_prefix role room k ts first more word span e begins o left p in
    none at.mid at.spelled at.allowed at.binds at.low at.operand left at.phrase)

pub begins_prefix : (role : Role) (room k : ℕ) (ts : List Terminal) (word : PrefixWord) (span : Span)
    (mid : List Terminal) (operand : Tree) (rest : List Terminal)
    → SpellsPrefix ts word span mid → allows_prefix role word ≡ true → prefix_level word ≤ k → 2 ≤ room
    → OnlyPhrase role (room - 1) (prefix_level word) mid operand rest
    → (first : Terminal) (more : List Terminal) → ts ≡ first ∷ more
    → PhrasesGoOnFrom role room k ts (Prefix word operand span) rest
begins_prefix role room k ts word span mid operand rest spelled allowed binds low o first more e =
    let begins = prefix_first ts first more word span mid e spelled in
    let inner = o.phrase.height in
    begins_first role room k ts (Prefix word operand span) rest (allowed, o.phrase.level, mid, spelled, o.phrase.spells) binds (omega arith)
    (λ o' left p.
    let at = sole_prefix role room k ts first more word span e begins o' left p in
    let same_mid = prefix_left ts word span mid at.mid spelled at.spelled in
    let there = subst (λ (x : List Terminal). Phrase role (room - 1) (prefix_level word) x at.operand left) same_mid at.phrase in
    let same = o.only at.operand left there in
    let whole : Prefix word at.operand span ≡ Prefix word operand span = ap (λ (x : Tree). Prefix word x span) same.0 in
    let is = at.is in
    let after = same.1 in
    (cc, cc))

second_end : (ts : List Terminal) (word : PrefixWord) (span : Span) (mid : List Terminal) → ts ≡ []
    → SecondSpelling ts word span mid → ⊥
second_end ts prefix.Minus span mid e h = cc
second_end ts prefix.Not span mid e h = h
second_end ts prefix.Always span mid e h = h
second_end ts prefix.Never span mid e h = h
second_end ts prefix.Future span mid e h = let f = h.2 in cc
second_end ts prefix.Then span mid e h = h

prefix_end : (ts : List Terminal) (word : PrefixWord) (span : Span) (mid : List Terminal) → ts ≡ []
    → SpellsPrefix ts word span mid → ⊥
prefix_end ts word span mid e h = elim h [ inl i ↦ cc | inr s ↦ second_end ts word span mid e s ]

none_at_end : (role : Role) (room k : ℕ) (ts : List Terminal) → ts ≡ [] → (o : Tree) (left : List Terminal)
    → OperandAt role room k ts o left → ⊥
none_at_end role room k ts e (Name w) left p = let q0 : ts ≡ terminal.Name w ∷ left = p.spells in cc
none_at_end role room k ts e (Dotted s q) left p = let q0 : ts ≡ terminal.Name s ∷ terminal.Mark mark.Dot p.spells.1 ∷ terminal.Name q ∷ left =
    p.spells.2 in cc
none_at_end role room k ts e (Numeral n s) left p = let q0 : ts ≡ terminal.Numeral n s ∷ left = p.spells in cc
none_at_end role room k ts e (Truth b s) left p = let q0 : ts ≡ terminal.Truth b s ∷ left = p.spells in cc
none_at_end role room k ts e (Brackets i s) left p = let q0 : ts ≡ terminal.Mark mark.Open s ∷ p.spells.1 = p.spells.2 in cc
none_at_end role room k ts e (OfPort v q s) left p = let q0 : ts ≡ terminal.OfPort v s ∷ terminal.Mark mark.Open p.spells.1 ∷ terminal.Name q ∷
    terminal.Mark mark.Close p.spells.2 ∷ left = p.spells.3 in cc
none_at_end role room k ts e (Prefix v i s) left p = prefix_end ts v s p.spells.2 e p.spells.3
none_at_end role room k ts e (Binary v i j s) left p = p.operand

-- nothing begins an expression there
pub never_end : (role : Role) (room k : ℕ) (ts : List Terminal) → ts ≡ [] → NoPhrase role room k ts
never_end role room k ts e = never_first role room k ts (none_at_end role room k ts e)

none_at : (role : Role) (room k : ℕ) (ts : List Terminal) (first : Terminal) (more : List Terminal)
    → ts ≡ first ∷ more → (CanBegin first → ⊥) → prefix_of first ≡ None → (o : Tree) (left : List Terminal)
    → OperandAt role room k ts o left → ⊥
none_at role room k ts first more e unbegun unprefixed (Name w) left p = let q0 : ts ≡ terminal.Name w ∷ left =
    p.spells in let same : terminal.Name w ≡ first = cc in unbegun (subst CanBegin same tt)
none_at role room k ts first more e unbegun unprefixed (Dotted s q) left p =
    let q0 : ts ≡ terminal.Name s ∷ terminal.Mark mark.Dot p.spells.1 ∷ terminal.Name q ∷ left = p.spells.2 in let same : terminal.Name s ≡ first =
    cc in unbegun (subst CanBegin same tt)
none_at role room k ts first more e unbegun unprefixed (Numeral n s) left p = let q0 : ts ≡ terminal.Numeral n s ∷ left =
    p.spells in let same : terminal.Numeral n s ≡ first = cc in unbegun (subst CanBegin same tt)
none_at role room k ts first more e unbegun unprefixed (Truth b s) left p = let q0 : ts ≡ terminal.Truth b s ∷ left =
    p.spells in let same : terminal.Truth b s ≡ first = cc in unbegun (subst CanBegin same tt)
none_at role room k ts first more e unbegun unprefixed (Brackets i s) left p = let q0 : ts ≡ terminal.Mark mark.Open s ∷ p.spells.1 =
    p.spells.2 in let same : terminal.Mark mark.Open s ≡ first = cc in unbegun (subst CanBegin same refl)
none_at role room k ts first more e unbegun unprefixed (OfPort v q s) left p =
    let q0 : ts ≡ terminal.OfPort v s ∷ terminal.Mark mark.Open p.spells.1 ∷ terminal.Name q ∷ terminal.Mark mark.Close p.spells.2 ∷ left =
    p.spells.3 in let same : terminal.OfPort v s ≡ first = cc in unbegun (subst CanBegin same tt)
none_at role room k ts first more e unbegun unprefixed (Prefix v i s) left p = prefix_not ts first more v s p.spells.2 e unprefixed p.spells.3
none_at role room k ts first more e unbegun unprefixed (Binary v i j s) left p = p.operand

pub never_at : (role : Role) (room k : ℕ) (ts : List Terminal) (first : Terminal) (more : List Terminal)
    → ts ≡ first ∷ more → (CanBegin first → ⊥) → prefix_of first ≡ None → NoPhrase role room k ts
never_at role room k ts first more e unbegun unprefixed = never_first role room k ts (none_at role room k ts first more e unbegun unprefixed)
