pub mod JulianLaws
pub mod JulianSystemLaws
pub mod IndianLaws
pub mod IndianSystemLaws
pub mod PersianRuleLaws
pub mod PersianLaws
pub mod PersianSystemLaws
pub mod PersianMonthLaws
