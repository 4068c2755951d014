use Rattle.std.proofs.Common.{refl, codes, arith}
use Rattle.java_model.specs.Lexical.Words.{keywords}
use Rattle.java_scan.proofs.WordLaws.{by_letter, other_letter, none_are}
use Rattle.java_scan.proofs.words.reserved_words_from.Goals as goal

pub returns-in-97 : goal.returns-in-97
unfolding keywords
returns-in-97 c = by_letter c.args.letter 97 _ c.in-97.is refl

pub returns-in-98 : goal.returns-in-98
unfolding keywords
returns-in-98 c = by_letter c.args.letter 98 _ c.in-98.is refl

pub returns-in-99 : goal.returns-in-99
unfolding keywords
returns-in-99 c = by_letter c.args.letter 99 _ c.in-99.is refl

pub returns-in-100 : goal.returns-in-100
unfolding keywords
returns-in-100 c = by_letter c.args.letter 100 _ c.in-100.is refl

pub returns-in-101 : goal.returns-in-101
unfolding keywords
returns-in-101 c = by_letter c.args.letter 101 _ c.in-101.is refl

pub returns-in-102 : goal.returns-in-102
unfolding keywords
returns-in-102 c = by_letter c.args.letter 102 _ c.in-102.is refl

pub returns-in-103 : goal.returns-in-103
unfolding keywords
returns-in-103 c = by_letter c.args.letter 103 _ c.in-103.is refl

pub returns-in-105 : goal.returns-in-105
unfolding keywords
returns-in-105 c = by_letter c.args.letter 105 _ c.in-105.is refl

pub returns-in-108 : goal.returns-in-108
unfolding keywords
returns-in-108 c = by_letter c.args.letter 108 _ c.in-108.is refl

pub returns-in-110 : goal.returns-in-110
unfolding keywords
returns-in-110 c = by_letter c.args.letter 110 _ c.in-110.is refl

pub returns-in-112 : goal.returns-in-112
unfolding keywords
returns-in-112 c = by_letter c.args.letter 112 _ c.in-112.is refl

pub returns-in-114 : goal.returns-in-114
unfolding keywords
returns-in-114 c = by_letter c.args.letter 114 _ c.in-114.is refl

pub returns-in-115 : goal.returns-in-115
unfolding keywords
returns-in-115 c = by_letter c.args.letter 115 _ c.in-115.is refl

pub returns-in-116 : goal.returns-in-116
unfolding keywords
returns-in-116 c = by_letter c.args.letter 116 _ c.in-116.is refl

pub returns-in-118 : goal.returns-in-118
unfolding keywords
returns-in-118 c = by_letter c.args.letter 118 _ c.in-118.is refl

pub returns-in-119 : goal.returns-in-119
unfolding keywords
returns-in-119 c = by_letter c.args.letter 119 _ c.in-119.is refl

pub returns-in_default : goal.returns-in_default
returns-in_default c = other_letter c.args.letter (none_are (codes "abcdefgilnprstvw") c.args.letter (λ e. omega arith, (λ e. omega arith, (λ e. omega arith, (λ e. omega arith, (λ e. omega arith, (λ e. omega arith, (λ e. omega arith, (λ e. omega arith, (λ e. omega arith, (λ e. omega arith, (λ e. omega arith, (λ e. omega arith, (λ e. omega arith, (λ e. omega arith, (λ e. omega arith, (λ e. omega arith, tt)))))))))))))))))

pub slice_bounds-result-end-in_default : goal.slice_bounds-result-end-in_default
slice_bounds-result-end-in_default c = refl
