-- Document 01's numbers of the errors: 10 to 23 of the rules, 31 to 34 of the lexer.
use Rattle.std.specs.Prelude.{ℕ}

abbrev pub e_too_deep : ℕ
e_too_deep = 10

abbrev pub e_expected_token : ℕ
e_expected_token = 11

abbrev pub e_expected_identifier : ℕ
e_expected_identifier = 12

abbrev pub e_docs_attached_to_nothing : ℕ
e_docs_attached_to_nothing = 13

abbrev pub e_docs_before_something_else : ℕ
e_docs_before_something_else = 14

abbrev pub e_import_path_not_a_string : ℕ
e_import_path_not_a_string = 15

abbrev pub e_extern_without_a_string : ℕ
e_extern_without_a_string = 16

abbrev pub e_nested_extern : ℕ
e_nested_extern = 17

abbrev pub e_match_without_a_default : ℕ
e_match_without_a_default = 18

abbrev pub e_expected_expression : ℕ
e_expected_expression = 19

abbrev pub e_empty_foreign : ℕ
e_empty_foreign = 20

abbrev pub e_empty_option : ℕ
e_empty_option = 21

abbrev pub e_empty_array : ℕ
e_empty_array = 22

abbrev pub e_bad_type : ℕ
e_bad_type = 23

abbrev pub e_unterminated_string : ℕ
e_unterminated_string = 31

abbrev pub e_invalid_utf8 : ℕ
e_invalid_utf8 = 32

abbrev pub e_unknown_character : ℕ
e_unknown_character = 33

abbrev pub e_invalid_number : ℕ
e_invalid_number = 34
