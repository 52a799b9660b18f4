-- Well-formed UTF-8, as RFC 3629, section 4, has it.
use Rattle.std.specs.Prelude.{Bool, true, false, List, [], ◌∷◌, ℕ, leb, ltb, eqb}
use Rattle.lex.specs.declared.utf8.Utf8State.{Utf8State}
use Rattle.lex.specs.declared.utf8.Utf8State.TheVariants.{Boundary, Expecting, Invalid}

-- the least and the greatest second byte, by the first: they rule out longer forms than needed,
-- surrogates, and what is past U+10FFFF
unfoldable pub least_second : ℕ → ℕ
least_second b =
    elim (eqb b 0xe0) [ true ↦ 0xa0 | false ↦ elim (eqb b 0xf0) [ true ↦ 0x90 | false ↦ 0x80 ] ]

unfoldable pub greatest_second : ℕ → ℕ
greatest_second b =
    elim (eqb b 0xed) [ true ↦ 0x9f | false ↦ elim (eqb b 0xf4) [ true ↦ 0x8f | false ↦ 0xbf ] ]

-- the place after a character's first byte
unfoldable pub after_lead : ℕ → Utf8State
after_lead b =
    elim (ltb b 0x80) [
      | true ↦ Boundary
      | false ↦
          elim (ltb b 0xc2) [
            | true ↦ Invalid
            | false ↦
                elim (ltb b 0xe0) [
                  | true ↦ Expecting 1 0x80 0xbf
                  | false ↦
                      elim (ltb b 0xf0) [
                        | true ↦ Expecting 2 (least_second b) (greatest_second b)
                        | false ↦
                            elim (ltb b 0xf5) [
                              | true ↦ Expecting 3 (least_second b) (greatest_second b)
                              | false ↦
                                  Invalid
                            ]
                      ]
                ]
          ]
    ]

-- the place after one more byte of a character, `more` of which were to come
unfoldable pub after_continuation : ℕ → Utf8State
after_continuation more =
    elim (eqb more 3) [
      | true ↦ Expecting 2 0x80 0xbf
      | false ↦ elim (eqb more 2) [ true ↦ Expecting 1 0x80 0xbf | false ↦ Boundary ]
    ]

unfoldable pub next_state : Utf8State → ℕ → Utf8State
next_state Boundary b = after_lead b
next_state (Expecting more low high) b =
    elim (leb low b) [
      | true ↦ elim (leb b high) [ true ↦ after_continuation more | false ↦ Invalid ]
      | false ↦ Invalid
    ]
next_state Invalid b = Invalid

abbrev pub is_boundary : Utf8State → Bool
is_boundary Boundary = true
is_boundary (Expecting more low high) = false
is_boundary Invalid = false

unfoldable pub state_after : Utf8State → List ℕ → Utf8State
state_after p [] = p
state_after p (b ∷ bs) = state_after (next_state p b) bs

unfoldable pub utf8 : List ℕ → Bool
utf8 bs = is_boundary (state_after Boundary bs)
